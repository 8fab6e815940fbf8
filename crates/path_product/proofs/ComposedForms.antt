-- Forms that take the places of a case's variables, and those that the case ends with.
use Rattle.std.proofs.Common.{◌≡◌, ℕ, suc, ◌+◌, ◌-◌, ◌<◌, ◌≤◌, Bool, true, false, cond, ◌&&◌, List, [], ◌∷◌, ◌++◌, length, drop, get_or, map, Some, None, refl, sym, ap, subst, ◌∙◌, inl, inr, append-nil, arith}
use Rattle.std.specs.Prelude.{nat_le}
use Rattle.std.proofs.lemmas.Bool.Decides.{nat_tests}
use Rattle.std.proofs.lemmas.List.{drop_more}
use Rattle.std.proofs.lemmas.List.Elements.{All-append, All-weaker, All-push}
use Rattle.std.proofs.lemmas.List.Folds.{list_all-append}
use Rattle.c_ast.specs.declared.place.Place.{Place}
use Rattle.lin_terms.specs.declared.form.Form.{Form}
use Rattle.lin_terms.specs.Bounds.{fits_form, fit_form}
use Rattle.lin_terms.specs.Form.{variable_form}
use Rattle.lin_terms.specs.Makes.{IsFittingForm, fitting}
use Rattle.lin_terms.proofs.Laws.{fitting_fits}
use Rattle.lin_terms.specs.declared.row.Row.{Row}
use Rattle.sym_paths.specs.declared.case.Case.{Case}
use Rattle.sym_paths.specs.declared.limit.PathLimit.{PathLimit}
use Rattle.sym_paths.specs.declared.limit.PathLimit.TheVariants as limit
use Rattle.sym_paths.specs.Walk.{State, gives, stops}
use Rattle.sym_paths.specs.Nodes.{end_at}
use Rattle.sym_paths.specs.Cases.{variables_from}
use Rattle.path_product.proofs.PathsFit.{variables_long, variables_small}
use Rattle.path_product.specs.Compose.{all_fit, ended, unknowns_of, rows_and_end, case_with, case_over}
use Rattle.path_product.specs.Coded.{state_of, StopsAt, IsWide, AreOver}

-- ---- the forms of unknowns

-- forms that are over fewer columns, and then those of unknowns
pub with_unknowns_over : (forms : List Form) (room first count : ℕ) → first + count ≤ room → AreOver first forms
    → AreOver room (forms ++ variables_from room first count)
with_unknowns_over forms room first count within over =
    record {
      lengths = All-append (λ form. length form.coefs ≤ room) forms (variables_from room first count)
          (All-weaker (λ form. length form.coefs ≤ first) (λ form. length form.coefs ≤ room) (λ form less. omega (arith, less, within)) forms over.lengths)
          (variables_long room first count);
      fit = All-append IsFittingForm forms (variables_from room first count) over.fit
          (variables_small room first count within);
    }

append_one : {X : Type 0} (xs : List X) (y : X) (ys : List X) → (xs ++ y ∷ []) ++ ys ≡ xs ++ (y ∷ ys)
append_one [] y ys = refl
append_one {X} (x ∷ xs) y ys = ap (λ (t : List X). x ∷ t) (append_one xs y ys)

-- one unknown more
pub next_unknown : (made : List Form) (room first count i : ℕ) → i < count
    → (made ++ variable_form room (first + i) ∷ []) ++ variables_from room (first + (i + 1)) (count - (i + 1))
    ≡ made ++ variables_from room (first + i) (count - i)
next_unknown made room first count i below =
    let one : first + (i + 1) ≡ suc (first + i) = omega arith in
    let left : count - i ≡ suc (count - (i + 1)) = omega (arith, below) in
    append_one made (variable_form room (first + i)) (variables_from room (first + (i + 1)) (count - (i + 1)))
    ∙ rw (one, left) refl

-- none is left
pub no_unknown : (made : List Form) (room first count i : ℕ) → count ≤ i → made ++ variables_from room (first + i) (count - i) ≡ made
no_unknown made room first count i past =
    let none : count - i ≡ 0 = omega (arith, past) in
    rw none (append-nil made)

-- ---- the forms at a case's end

abbrev fits : Form → Bool
fits form = fits_form form.constant && fit_form form.coefs

by_fit : (test : Bool) (wanted form : Form) → cond test (Some wanted) None ≡ Some form → (test ≡ true) × (form ≡ wanted)
by_fit true wanted form is = (refl, cc)
by_fit false wanted form is = absurd cc

by_wide : (test : Bool) (wanted : Form) → cond test (Some wanted) None ≡ None → test ≡ false
by_wide true wanted is = absurd cc
by_wide false wanted is = refl

wide_inside : (front : List Form) (form : Form) (back : List Form) → fits form ≡ false → all_fit (front ++ form ∷ back) ≡ false
wide_inside [] form back wide = ap (λ (t : Bool). t && all_fit back) wide
wide_inside (first ∷ front) form back wide = by (fits first) (wide_inside front form back wide)
  where
    by : (t : Bool) → all_fit (front ++ form ∷ back) ≡ false → (t && all_fit (front ++ form ∷ back)) ≡ false
    by true others = others
    by false others = refl

module _ {X : Type 0} (f : X → Form) (all : List X) (i : ℕ) (item : X) (below : i < length all) (is : item ≡ get_or all i item)
    (made : List Form) (same : made ++ map f (drop i all) ≡ map f all) where
  all_are : made ++ (f item ∷ map f (drop (i + 1) all)) ≡ map f all
  all_are =
      sym (ap (λ (xs : List X). made ++ map f xs) (drop_more all i item below)
      ∙ ap (λ (x : X). made ++ (f x ∷ map f (drop (i + 1) all))) (sym is)) ∙ same

  -- one form more
  pub next_form : (form : Form) → fitting (f item) ≡ Some form → (made ++ form ∷ []) ++ map f (drop (i + 1) all) ≡ map f all
  next_form form fit =
      append_one made form (map f (drop (i + 1) all))
      ∙ ap (λ (x : Form). made ++ (x ∷ map f (drop (i + 1) all))) (by_fit (fits (f item)) (f item) form fit).1 ∙ all_are

  -- a form that is too wide
  pub next_wide : (why : PathLimit) → IsWide (fitting (f item)) why → (l : Place) (state : State) → StopsAt (ended l (map f all) state) why
  next_wide why (inl none) l state = inl none
  next_wide why (inr wide) l state =
      let some : all_fit (map f all) ≡ false =
      ap (λ (forms : List Form). all_fit forms) (sym all_are)
      ∙ wide_inside made (f item) (map f (drop (i + 1) all)) (by_wide (fits (f item)) (f item) wide.1) in
      inr (ap (λ (t : Bool). cond t (gives (end_at l (map f all)) state) (stops limit.WideForm)) some
      ∙ ap (λ (other : PathLimit). stops other) (sym wide.0))

-- one form more that fits
pub all_fit_more : (made : List Form) (wanted form : Form) → fitting wanted ≡ Some form → all_fit made ≡ true → all_fit (made ++ form ∷ []) ≡ true
all_fit_more made wanted form fit all =
    let parts = by_fit (fits wanted) wanted form fit in
    let fits_too : fits form ≡ true = subst (λ (x : Form). fits x ≡ true) (sym parts.1) parts.0 in
    list_all-append fits made (form ∷ []) ∙ rw (all, fits_too) refl

pub over_more : (columns : ℕ) (made : List Form) (wanted form : Form) → fitting wanted ≡ Some form → length form.coefs ≡ columns → AreOver columns made
    → AreOver columns (made ++ form ∷ [])
over_more columns made wanted form fit long over = record {
  lengths = All-push (λ form. length form.coefs ≤ columns) made form over.lengths (omega (arith, long));
  fit = All-push IsFittingForm made form over.fit (fitting_fits wanted form fit);
}

-- ---- a case

few_test : (m n : ℕ) → m ≤ n → nat_le m n ≡ true
few_test m n less = grind (arith, nat_tests)

-- where its unknowns have room
pub case_is : (most : ℕ) (forms : List Form) (case : Case) (rows : List Row) (columns unknowns all : ℕ) → unknowns ≡ unknowns_of (length forms) case
    → all ≡ columns + unknowns → all ≤ most
    → case_over most forms case (state_of rows columns) ≡ rows_and_end all (forms ++ variables_from all columns unknowns) case (state_of rows all)
case_is most forms case rows columns unknowns all is total within =
    let new : ℕ = unknowns_of (length forms) case in
    let few : columns + unknowns_of (length forms) case ≤ most = subst (λ (n : ℕ). n ≤ most) (total ∙ ap (λ (n : ℕ). columns + n) is) within in
    rw (total, is) (ap (λ (t : Bool). cond t (case_with (columns + new) new forms case (state_of rows columns)) (stops limit.ManyUnknowns))
    (few_test (columns + new) most few))
