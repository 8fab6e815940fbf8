-- Rows that join a walk once forms take the places of their variables.
use Rattle.std.proofs.Common.{◌≡◌, ◌↔◌, ℕ, suc, ◌+◌, ◌<◌, ◌≤◌, Bool, true, false, cond, List, [], ◌∷◌, length, take, drop, get_or, map, refl, sym, ap, subst, ◌∙◌, inl, inr, append-nil, true≢false, arith, eqb}
use Rattle.std.specs.Prelude.{ℤ, pos, negsuc, ◌≤ℤ◌, int_le, T, unsigned_abs}
use Rattle.std.proofs.lemmas.Int.{ints}
use Rattle.std.proofs.lemmas.Bool.{eqb-true}
use Rattle.std.proofs.lemmas.List.{drop_more, length-take}
use Rattle.std.proofs.lemmas.Grind.{common_steps}
use Rattle.lin_terms.specs.declared.row.Row.{Row}
use Rattle.lin_terms.specs.Form.{are_zeros, value_at}
use Rattle.lin_terms.specs.Row.{Allows, Holds, IsDecided}
use Rattle.lin_terms.proofs.Laws.{value_at-constant}
use Rattle.sym_paths.specs.declared.limit.PathLimit.{PathLimit}
use Rattle.sym_paths.specs.Walk.{State}
use Rattle.sym_paths.specs.Rows.{holds_alone, decided, joining, joined, all_joined}
use Rattle.path_product.specs.Compose.{left_side}
use Rattle.path_product.specs.Coded.{StopsAt}

-- ---- a row without variables

zero_size : (z : ℤ) → eqb (unsigned_abs z) 0 ≡ true → z ≡ pos 0
zero_size (pos n) h = ap pos (eqb-true n 0 h)
zero_size (negsuc n) h = let none = eqb-true (suc n) 0 h in absurd (omega (arith, none))

yes_is : (t : Bool) → T t → t ≡ true
yes_is true h = refl
yes_is false h = absurd h

alone_allows : (equality : Bool) (constant value : ℤ) → value ≡ constant
    → (cond equality (eqb (unsigned_abs constant) 0) (int_le (pos 0) constant) ≡ true) ↔ Allows equality value
alone_allows true constant value is =
    (λ h. is ∙ zero_size constant h, λ h. subst (λ (z : ℤ). eqb (unsigned_abs z) 0 ≡ true) (sym (sym is ∙ h)) refl)
alone_allows false (pos n) value is =
    (λ h. omega (arith, ints), λ h. let zero_first : pos 0 ≤ℤ pos n = omega (arith, ints) in yes_is (int_le (pos 0) (pos n)) zero_first.le)
alone_allows false (negsuc n) value is = (λ h. absurd (true≢false (sym h)), λ h. absurd (omega (arith, ints)))

alone_holds : (row : Row) → are_zeros row.coefs ≡ true → (holds_alone row ≡ true) ↔ Holds [] row
alone_holds row none = alone_allows row.equality row.constant (value_at (left_side row) []) (value_at-constant (left_side row) [] none)

same_truth : (a b : Bool) (P : Type 0) → (a ≡ true) ↔ P → (b ≡ true) ↔ P → a ≡ b
same_truth true true P f g = refl
same_truth true false P f g = sym (g.1 (f.0 refl))
same_truth false true P f g = f.1 (g.0 refl)
same_truth false false P f g = refl

pub joining_decided : {A : Type 0} (row : Row) (value : A) (state : State) (answer : Bool) → IsDecided row answer
    → joining (are_zeros row.coefs) row value state ≡ decided answer value state
joining_decided row value state answer is =
    ap (λ (t : Bool). joining t row value state) is.no_variable
    ∙ ap (λ (t : Bool). decided t value state) (same_truth (holds_alone row) answer (Holds [] row) (alone_holds row is.no_variable) (is.truth []))

-- ---- the next of the rows that are made of a list

module _ {X A : Type 0} (f : X → Row) (all : List X) (i : ℕ) (item : X) (below : i < length all) (is : item ≡ get_or all i item)
    (value : A) (state : State) where
  next_first : all_joined (map f (drop i all)) value state ≡ all_joined (f item ∷ map f (drop (i + 1) all)) value state
  next_first =
      ap (λ (xs : List X). all_joined (map f xs) value state) (drop_more all i item below)
      ∙ ap (λ (x : X). all_joined (f x ∷ map f (drop (i + 1) all)) value state) (sym is)

  pub next_goes : (after : State) → joined (f item) (tt {0}) state ≡ decided true (tt {0}) after
      → all_joined (map f (drop i all)) value state ≡ all_joined (map f (drop (i + 1) all)) value after
  next_goes after goes = next_first ∙ rw goes (append-nil (all_joined (map f (drop (i + 1) all)) value after))

  pub next_never : (after : State) → joined (f item) (tt {0}) state ≡ decided false (tt {0}) after → all_joined (map f (drop i all)) value state ≡ []
  next_never after fails = next_first ∙ rw fails refl

  pub next_stops : (why : PathLimit) → StopsAt (joined (f item) (tt {0}) state) why → StopsAt (all_joined (map f (drop i all)) value state) why
  next_stops why (inl none) = inl none
  next_stops why (inr stopped) = inr (next_first ∙ rw stopped refl)

-- ---- what is kept

shorter : {X : Type 0} (first second : List X) → take (length first) second ≡ first → length first ≤ length second
shorter first second begins =
    let same = ap length begins in
    let cut = length-take (length first) second in
    omega (arith, same, cut)

-- a list that begins with another, which begins with a third, begins with that
pub take_on : {X : Type 0} (first second third : List X) → take (length first) second ≡ first → take (length second) third ≡ second
    → take (length first) third ≡ first
take_on {X} first second third begins goes_on =
    sym (take_take (length first) (length second) third (shorter first second begins))
    ∙ ap (λ (xs : List X). take (length first) xs) goes_on ∙ begins
  where
    take_take : (m n : ℕ) (xs : List X) → m ≤ n → take m (take n xs) ≡ take m xs
    take_take m n xs less = grind (arith, common_steps)
