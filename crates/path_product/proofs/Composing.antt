-- The cases of a later segment say of a move's start what they say of their own.
use Rattle.std.proofs.Common.{◌≡◌, ℕ, suc, ◌+◌, ◌-◌, ◌≤◌, Bool, true, false, cond, List, [], ◌∷◌, ◌++◌, map, length, take, drop, All, refl, sym, ap, subst, ◌∙◌, inl, inr, length-append, length-drop, length-take-le, take-append-drop, arith}
use Rattle.std.specs.Prelude.{ℤ, nat_le}
use Rattle.std.proofs.lemmas.List.Elements.{All-nil, All-cons, All-head, All-tail}
use Rattle.c_ast.specs.declared.place.Place.{Place}
use Rattle.lin_terms.specs.declared.form.Form.{Form}
use Rattle.lin_terms.specs.declared.row.Row.{Row}
use Rattle.lin_terms.specs.Form.{value_at}
use Rattle.lin_terms.specs.Row.{Allows, Holds}
use Rattle.lin_terms.proofs.Laws.{value_at-composed}
use Rattle.sym_paths.specs.declared.limit.PathLimit.TheVariants as limit
use Rattle.sym_paths.specs.declared.case.Case.{Case}
use Rattle.sym_paths.specs.Walk.{State, Path, Walk, gives, stops}
use Rattle.sym_paths.specs.Rows.{all_joined}
use Rattle.sym_paths.specs.Nodes.{End, end_at}
use Rattle.sym_paths.specs.Cases.{variables_from}
use Rattle.sym_paths.specs.Points.{HasValue, HaveValues, HoldsBefore, Extends, IsPoint, IsWholePoint, EachArrives, SomeArrives, SomeOf, ReachedFrom, Splits}
use Rattle.sym_paths.proofs.Laws.{each_append, some_left, some_right, each_changed, some_changed, onward_each, onward_some, extends_on, gives_splits, stops_splits, all_joined_joins, values_stay, values_are_those, rows_stay, variables_have_values}
use Rattle.path_product.specs.Compose.{left_side, row_over, form_over, all_fit, ended, unknowns_of, with_columns, case_with, case_over, cases_over}

-- ---- values of forms and rows over forms

pub extends_by : (point behind : List ℤ) → Extends point (point ++ behind)
extends_by point behind = record { behind = behind; is = refl }

-- there is a value for each form
pub same_length : (point : List ℤ) (forms : List Form) (values : List ℤ) → HaveValues point forms values → length forms ≡ length values
same_length point [] [] have = refl
same_length point [] (v ∷ values) have = absurd have
same_length point (f ∷ forms) [] have = absurd have
same_length point (f ∷ forms) (v ∷ values) have = ap suc (same_length point forms values have.1)

have_append : (point : List ℤ) (first second : List Form) (xs ys : List ℤ) → HaveValues point first xs → HaveValues point second ys
    → HaveValues point (first ++ second) (xs ++ ys)
have_append point [] second [] ys have more = more
have_append point [] second (x ∷ xs) ys have more = absurd have
have_append point (f ∷ first) second [] ys have more = absurd have
have_append point (f ∷ first) second (x ∷ xs) ys have more = (have.0, have_append point first second xs ys have.1 more)

module _ (columns : ℕ) (point : List ℤ) (forms : List Form) (values : List ℤ) (have : HaveValues point forms values) where
  form_over_has : (form : Form) → HasValue point (form_over columns forms form) (value_at form values)
  form_over_has form behind =
      value_at-composed columns form forms (point ++ behind)
      ∙ ap (λ (vs : List ℤ). value_at form vs)
      (values_are_those (point ++ behind) forms values (values_stay point (point ++ behind) forms values (extends_by point behind) have))

  -- forms over forms have the values that they have at those forms' values
  pub forms_over_have : (others : List Form) → HaveValues point (map (form_over columns forms) others) (map (λ form. value_at form values) others)
  forms_over_have [] = tt
  forms_over_have (form ∷ others) = (form_over_has form, forms_over_have others)

  row_over_says : (row : Row) → value_at (left_side (row_over columns forms row)) point ≡ value_at (left_side row) values
  row_over_says row =
      value_at-composed columns (left_side row) forms point
      ∙ ap (λ (vs : List ℤ). value_at (left_side row) vs) (values_are_those point forms values have)

  -- rows over forms hold where they hold at the forms' values
  pub rows_over_show : (rows : List Row) → All (Holds point) (map (row_over columns forms) rows) → All (Holds values) rows
  rows_over_show [] hold = All-nil (Holds values)
  rows_over_show (row ∷ rows) hold =
      All-cons (Holds values) row rows
      (subst (Allows row.equality) (row_over_says row) (All-head (Holds point) (row_over columns forms row) (map (row_over columns forms) rows) hold))
      (rows_over_show rows (All-tail (Holds point) (row_over columns forms row) (map (row_over columns forms) rows) hold))

  -- and the other way, whatever comes behind the point
  pub rows_over_hold : (rows : List Row) → All (Holds values) rows → All (HoldsBefore point) (map (row_over columns forms) rows)
  rows_over_hold [] hold = All-nil (HoldsBefore point)
  rows_over_hold (row ∷ rows) hold =
      All-cons (HoldsBefore point) (row_over columns forms row) (map (row_over columns forms) rows)
      (λ behind. subst (Allows row.equality) (sym (form_over_has (left_side row) behind)) (All-head (Holds values) row rows hold))
      (rows_over_hold rows (All-tail (Holds values) row rows hold))

-- ---- the new columns

drop_front : (point others : List ℤ) → drop (length point) (point ++ others) ≡ others
drop_front [] others = refl
drop_front (x ∷ point) others = drop_front point others

-- behind a point the new columns have the numbers that are put there
new_have : (n : ℕ) (point others : List ℤ) → length point ≡ n
    → HaveValues (point ++ others) (variables_from (n + length others) n (length others)) others
new_have n point others exact =
    let long = length-append point others in
    subst (HaveValues (point ++ others) (variables_from (n + length others) n (length others)))
    (ap (λ (k : ℕ). drop k (point ++ others)) (sym exact) ∙ drop_front point others)
    (variables_have_values (n + length others) n (length others) (point ++ others) (omega (arith, long, exact)) (omega (arith, long, exact)))

-- at each point with room for them they have numbers
record Numbered (point : List ℤ) (n count : ℕ) : Type 0 where
  numbers : List ℤ
  many : length numbers ≡ count
  have : HaveValues point (variables_from (n + count) n count) numbers

numbered : (point : List ℤ) (n count : ℕ) → n + count ≤ length point → Numbered point n count
numbered point n count room =
    let short : List ℤ = take (n + count) point in
    let long : length (take (n + count) point) ≡ n + count = length-take-le (n + count) point room in
    let cut : length (drop n (take (n + count) point)) ≡ length (take (n + count) point) - n = length-drop n (take (n + count) point) in
    record {
      numbers = drop n short;
      many = omega (arith, long, cut);
      have = values_stay short point (variables_from (n + count) n count) (drop n short)
          (record { behind = drop (n + count) point; is = sym (take-append-drop (n + count) point) })
          (variables_have_values (n + count) n count short (omega (arith, long)) (omega (arith, long)));
    }

-- ---- one case of a later segment, whose start has the values e

-- With some numbers for its unknowns the case holds at e, and ends at that place with the values of those forms.
pub record Composed (e : List ℤ) (unknowns : ℕ) (case : Case) (point : List ℤ) (end : End) : Type 0 where
  pub numbers : List ℤ
  pub many : length numbers ≡ unknowns
  pub holds : All (Holds (e ++ numbers)) case.rows
  pub place : end.place ≡ case.to
  pub have : HaveValues point end.forms (map (λ form. value_at form (e ++ numbers)) case.after)

ended_splits : (l : Place) (forms : List Form) (state : State) (P : List ℤ → Type 0) (G : List ℤ → End → Type 0)
    → ((point : List ℤ) → P point → G point (end_at l forms)) → Splits state P G (ended l forms state)
ended_splits l forms state P G is = on (all_fit forms)
  where
    on : (t : Bool) → Splits state P G (cond t (gives (end_at l forms) state) (stops limit.WideForm))
    on true = gives_splits state P G (end_at l forms) is
    on false = stops_splits state P G limit.WideForm

module _ (e : List ℤ) (case : Case) (forms : List Form) (state : State) (unknowns : ℕ) where
  abbrev columns : ℕ
  columns = state.columns + unknowns

  abbrev over : List Form
  over = forms ++ variables_from (state.columns + unknowns) state.columns unknowns

  abbrev after : List Form
  after = map (form_over (state.columns + unknowns) (forms ++ variables_from (state.columns + unknowns) state.columns unknowns)) case.after

  abbrev rows : List Row
  rows = map (row_over (state.columns + unknowns) (forms ++ variables_from (state.columns + unknowns) state.columns unknowns)) case.rows

  abbrev wider : State
  wider = with_columns (state.columns + unknowns) state

  abbrev Owes : Path End → Type 0
  Owes path = (point : List ℤ) → IsPoint point path.state
      → IsPoint point state × (HaveValues point forms e → Composed e unknowns case point path.value)

  composed_of : (point numbers : List ℤ) → length numbers ≡ unknowns → HaveValues point over (e ++ numbers)
      → All (Holds (e ++ numbers)) case.rows → Composed e unknowns case point (end_at case.to after)
  composed_of point numbers many have holds = record {
    numbers = numbers;
    many = many;
    holds = holds;
    place = refl;
    have = forms_over_have columns point over (e ++ numbers) have case.after;
  }

  end_splits : (last : State) → Splits last (λ point. Composed e unknowns case point (end_at case.to after)) (Composed e unknowns case)
      (ended case.to after last)
  end_splits last =
      ended_splits case.to after last (λ point. Composed e unknowns case point (end_at case.to after)) (Composed e unknowns case) (λ point is. is)

  case_sound : EachArrives Owes (case_with columns unknowns forms case state)
  case_sound =
      onward_each (λ _ next. ended case.to after next) _ Owes (all_joined rows (tt {0}) wider)
      (λ path right. each_changed _ Owes (ended case.to after path.state)
      (λ q later point is.
      let end = later point is in
      let joined = right point end.0 in
      let room : columns ≤ length point = joined.0.room in (
        record { room = omega (arith, room); holds = joined.0.holds },
        λ have.
            let new = numbered point state.columns unknowns room in
            let all = have_append point forms (variables_from columns state.columns unknowns) e new.numbers have new.have in
            end.1 (composed_of point new.numbers new.many all (rows_over_show columns point over (e ++ new.numbers) all case.rows joined.1)),
      ))
      (end_splits path.state).sound)
      (all_joined_joins (tt {0}) rows wider).sound

  case_complete : (numbers : List ℤ) → length numbers ≡ unknowns → All (Holds (e ++ numbers)) case.rows → (point : List ℤ) → IsWholePoint point state
      → HaveValues point forms e → SomeArrives (ReachedFrom point (Composed e unknowns case)) (case_with columns unknowns forms case state)
  case_complete numbers many holds point whole have =
      let further = extends_by point numbers in
      let new : HaveValues (point ++ numbers) (variables_from columns state.columns unknowns) numbers =
      subst (λ (k : ℕ). HaveValues (point ++ numbers) (variables_from (state.columns + k) state.columns k) numbers) many
      (new_have state.columns point numbers whole.exact) in
      let all = have_append (point ++ numbers) forms (variables_from columns state.columns unknowns) e numbers
      (values_stay point (point ++ numbers) forms e further have) new in
      let long = length-append point numbers in
      let start : IsWholePoint (point ++ numbers) wider = record {
        exact = omega (arith, long, many, whole.exact);
        holds = rows_stay point (point ++ numbers) state.rows further whole.holds;
      } in
      onward_some (λ _ next. ended case.to after next) _ (ReachedFrom point (Composed e unknowns case)) (all_joined rows (tt {0}) wider)
      (λ path at. some_changed (ReachedFrom (point ++ numbers) (Composed e unknowns case)) (ReachedFrom point (Composed e unknowns case))
      (ended case.to after path.state)
      (λ q r. record { longer = r.longer; extends = extends_on point (point ++ numbers) r.longer further r.extends; whole = r.whole; has = r.has })
      ((end_splits path.state).complete (point ++ numbers) at.0 (composed_of (point ++ numbers) numbers many all holds)))
      ((all_joined_joins (tt {0}) rows wider).complete (point ++ numbers) start
      (rows_over_hold columns (point ++ numbers) over (e ++ numbers) all case.rows holds))

-- ---- all cases of a later segment

module _ (most : ℕ) (e : List ℤ) (forms : List Form) (state : State) where
  -- The case holds at e, with some numbers for its unknowns.
  abbrev pub HeldBy : Case → Type 0
  HeldBy case = (numbers : List ℤ) × (length numbers ≡ unknowns_of (length forms) case) × All (Holds (e ++ numbers)) case.rows

  -- The end comes of one of the cases.
  abbrev pub ComposedOf : List Case → List ℤ → End → Type 0
  ComposedOf cases point end = SomeOf (λ case. Composed e (unknowns_of (length forms) case) case point end) cases

  abbrev OwesOf : List Case → Path End → Type 0
  OwesOf cases path = (point : List ℤ) → IsPoint point path.state
      → IsPoint point state × (HaveValues point forms e → SomeOf (λ case. Composed e (unknowns_of (length forms) case) case point path.value) cases)

  abbrev columns_with : Case → ℕ
  columns_with case = state.columns + unknowns_of (length forms) case

  abbrev case_or_limit : Case → Bool → Walk End
  case_or_limit case within =
      cond within (case_with (state.columns + unknowns_of (length forms) case) (unknowns_of (length forms) case) forms case state)
      (stops limit.ManyUnknowns)

  first_sound : (case : Case) (cases : List Case) (t : Bool) → EachArrives (OwesOf (case ∷ cases)) (case_or_limit case t)
  first_sound case cases true =
      each_changed _ (OwesOf (case ∷ cases)) (case_with (columns_with case) (unknowns_of (length forms) case) forms case state)
      (λ path right point is. let both = right point is in (both.0, λ have. inl (both.1 have)))
      (case_sound e case forms state (unknowns_of (length forms) case))
  first_sound case cases false = tt

  -- each path of a later segment comes of a case that holds
  pub cases_sound : (cases : List Case) → EachArrives (OwesOf cases) (cases_over most forms cases state)
  cases_sound [] = tt
  cases_sound (case ∷ cases) =
      each_append (OwesOf (case ∷ cases)) (case_over most forms case state) (cases_over most forms cases state)
      (first_sound case cases (nat_le (columns_with case) most))
      (each_changed (OwesOf cases) (OwesOf (case ∷ cases)) (cases_over most forms cases state)
      (λ path right point is. let both = right point is in (both.0, λ have. inr (both.1 have))) (cases_sound cases))

  first_complete : (case : Case) (cases : List Case) (t : Bool) → HeldBy case → (point : List ℤ) → IsWholePoint point state → HaveValues point forms e
      → SomeArrives (ReachedFrom point (ComposedOf (case ∷ cases))) (case_or_limit case t)
  first_complete case cases true (numbers, many, holds) point whole have =
      some_changed _ (ReachedFrom point (ComposedOf (case ∷ cases)))
      (case_with (columns_with case) (unknowns_of (length forms) case) forms case state)
      (λ path r. record { longer = r.longer; extends = r.extends; whole = r.whole; has = inl r.has })
      (case_complete e case forms state (unknowns_of (length forms) case) numbers many holds point whole have)
  first_complete case cases false held point whole have = tt

  -- where some case holds, some path is reached
  pub cases_complete : (cases : List Case) → SomeOf HeldBy cases → (point : List ℤ) → IsWholePoint point state → HaveValues point forms e
      → SomeArrives (ReachedFrom point (ComposedOf cases)) (cases_over most forms cases state)
  cases_complete [] held point whole have = absurd held
  cases_complete (case ∷ cases) (inl held) point whole have =
      some_left (ReachedFrom point (ComposedOf (case ∷ cases))) (case_over most forms case state) (cases_over most forms cases state)
      (first_complete case cases (nat_le (columns_with case) most) held point whole have)
  cases_complete (case ∷ cases) (inr held) point whole have =
      some_right (ReachedFrom point (ComposedOf (case ∷ cases))) (case_over most forms case state) (cases_over most forms cases state)
      (some_changed (ReachedFrom point (ComposedOf cases)) (ReachedFrom point (ComposedOf (case ∷ cases))) (cases_over most forms cases state)
      (λ path r. record { longer = r.longer; extends = r.extends; whole = r.whole; has = inr r.has }) (cases_complete cases held point whole have))
