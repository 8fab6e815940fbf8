-- The equality that is picked for a column, and the three kinds of rows where there is none.
use Rattle.std.proofs.Common.{◌≡◌, ◌⊎◌, ℕ, zero, suc, Bool, true, false, cond, not, List, [], ◌∷◌, map, refl, ◌∙◌, ap, subst, inl, inr, Option, Some, None}
use Rattle.std.specs.Prelude.{ℤ, pos, negsuc, ◌&&◌}
use Rattle.std.specs.List.{AllByRecursion}
use Rattle.std.proofs.lemmas.Bool.{and_parts, not-true}
use Rattle.elimination.specs.Combination.{Combination, entry, is_zero, is_positive, is_negative}
use Rattle.elimination.specs.Column.{is_pivot, behind, pivot_of, without, lower_bounds, upper_bounds, paired, pairs}
use Rattle.elimination.proofs.Lists.{Anything, all_anything, all_front, all_back, all_of_map, all_filter}
use Rattle.elimination.proofs.Points.{positive_not_zero, negative_not_zero}

abbrev pub Picked : Type 0
Picked = Combination × List Combination

-- ---- no equality has the column

behind_none : (row : Combination) (found : Option Picked) → behind row found ≡ None → found ≡ None
behind_none row None e = refl
behind_none row (Some picked) e = cc

none_step : (test : Bool) (row : Combination) (rows : List Combination) (found : Option Picked)
    → cond test (Some (row, rows)) (behind row found) ≡ None → (test ≡ false) × (found ≡ None)
none_step true row rows found e = cc
none_step false row rows found e = (refl, behind_none row found e)

pub none_picked : (j : ℕ) (rows : List Combination) → pivot_of j rows ≡ None → AllByRecursion (λ row. is_pivot j row ≡ false) rows
none_picked j [] e = tt
none_picked j (row ∷ rows) e =
    let step = none_step (is_pivot j row) row rows (pivot_of j rows) e in (step.0, none_picked j rows step.1)

-- ---- some equality has it

behind_some : (row : Combination) (found : Option Picked) (picked : Picked) → behind row found ≡ Some picked
    → (later : Picked) × (found ≡ Some later) × (picked ≡ (later.0, row ∷ later.1))
behind_some row None picked e = cc
behind_some row (Some later) picked e = (later, refl, cc)

-- it is the first row, or it is picked from the later ones
abbrev IsPickedFrom : Combination → List Combination → Bool → Option Picked → Picked → Type 0
IsPickedFrom row rows test found picked =
    ((test ≡ true) × (picked ≡ (row, rows))) ⊎ ((later : Picked) × (found ≡ Some later) × (picked ≡ (later.0, row ∷ later.1)))

some_step : (test : Bool) (row : Combination) (rows : List Combination) (found : Option Picked) (picked : Picked)
    → cond test (Some (row, rows)) (behind row found) ≡ Some picked → IsPickedFrom row rows test found picked
some_step true row rows found picked e = inl (refl, cc)
some_step false row rows found picked e = inr (behind_some row found picked e)

-- what holds of the pivot and of the others holds of all
pub picked_all : (j : ℕ) (P : Combination → Type 0) (rows : List Combination) (picked : Picked)
    → pivot_of j rows ≡ Some picked → P picked.0 → AllByRecursion P picked.1 → AllByRecursion P rows
picked_all j P [] picked e pivot others = tt
picked_all j P (row ∷ rows) picked e pivot others =
    elim (some_step (is_pivot j row) row rows (pivot_of j rows) picked e) [
      | inl first ↦ (subst (λ (t : Picked). P t.0) first.1 pivot, subst (λ (t : Picked). AllByRecursion P t.1) first.1 others)
      | inr later ↦
          let all = subst (λ (t : Picked). AllByRecursion P t.1) later.2 others in
          (all.0, picked_all j P rows later.0 later.1 (subst (λ (t : Picked). P t.0) later.2 pivot) all.1)
    ]

picked_test : (j : ℕ) (rows : List Combination) (picked : Picked) → pivot_of j rows ≡ Some picked → is_pivot j picked.0 ≡ true
picked_test j [] picked e = cc
picked_test j (row ∷ rows) picked e =
    elim (some_step (is_pivot j row) row rows (pivot_of j rows) picked e) [
      | inl first ↦ ap (λ (t : Picked). is_pivot j t.0) first.1 ∙ first.0
      | inr later ↦ ap (λ (t : Picked). is_pivot j t.0) later.2 ∙ picked_test j rows later.0 later.1
    ]

pub pivot_parts : (j : ℕ) (row : Combination) → is_pivot j row ≡ true → (row.row.equality ≡ true) × (is_zero (entry j row) ≡ false)
pivot_parts j row e =
    let both = and_parts row.row.equality (not (is_zero (entry j row))) e in (both.0, not-true (is_zero (entry j row)) both.1)

-- the pivot is an equality that has the column
pub pivot_is : (j : ℕ) (rows : List Combination) (picked : Picked) → pivot_of j rows ≡ Some picked
    → (picked.0.row.equality ≡ true) × (is_zero (entry j picked.0) ≡ false)
pivot_is j rows picked e = pivot_parts j picked.0 (picked_test j rows picked e)

-- ---- rows without the column, lower and upper bounds

-- the three kinds of rows are all rows
kinds_step : (z : ℤ) (P : Combination → Type 0) (row : Combination) (flats lowers uppers : List Combination)
    → AllByRecursion P (cond (is_zero z) (row ∷ flats) flats) → AllByRecursion P (cond (is_positive z) (row ∷ lowers) lowers)
    → AllByRecursion P (cond (is_negative z) (row ∷ uppers) uppers)
    → P row × AllByRecursion P flats × AllByRecursion P lowers × AllByRecursion P uppers
kinds_step (pos zero) P row flats lowers uppers all_flat all_lower all_upper = (all_flat.0, all_flat.1, all_lower, all_upper)
kinds_step (pos (suc n)) P row flats lowers uppers all_flat all_lower all_upper = (all_lower.0, all_flat, all_lower.1, all_upper)
kinds_step (negsuc n) P row flats lowers uppers all_flat all_lower all_upper = (all_upper.0, all_flat, all_lower, all_upper.1)

pub all_kinds : (j : ℕ) (P : Combination → Type 0) (rows : List Combination) → AllByRecursion P (without j rows)
    → AllByRecursion P (lower_bounds j rows) → AllByRecursion P (upper_bounds j rows) → AllByRecursion P rows
all_kinds j P [] all_flat all_lower all_upper = tt
all_kinds j P (row ∷ rows) all_flat all_lower all_upper =
    let step = kinds_step (entry j row) P row (without j rows) (lower_bounds j rows) (upper_bounds j rows) all_flat all_lower all_upper in
    (step.0, all_kinds j P rows step.1 step.2 step.3)

pub all_without : (j : ℕ) (rows : List Combination) → AllByRecursion (λ row. is_zero (entry j row) ≡ true) (without j rows)
all_without j rows =
    all_filter Anything (λ (row : Combination). is_zero (entry j row) ≡ true) (λ row. is_zero (entry j row)) (λ row is anything. is) rows (all_anything rows)

not_both : (a b : Bool) → (a && not b) ≡ false → b ≡ false → a ≡ false
not_both true b e f = cc
not_both false b e f = refl

-- an inequality that bounds variable j from below
abbrev pub IsLowerBound : ℕ → Combination → Type 0
IsLowerBound j row = (is_positive (entry j row) ≡ true) × (row.row.equality ≡ false)

-- an inequality that bounds it from above
abbrev pub IsUpperBound : ℕ → Combination → Type 0
IsUpperBound j row = (is_negative (entry j row) ≡ true) × (row.row.equality ≡ false)

pub all_lower_bounds : (j : ℕ) (rows : List Combination) → AllByRecursion (λ row. is_pivot j row ≡ false) rows
    → AllByRecursion (IsLowerBound j) (lower_bounds j rows)
all_lower_bounds j rows none =
    all_filter (λ (row : Combination). is_pivot j row ≡ false) (IsLowerBound j) (λ row. is_positive (entry j row))
    (λ row is fails. (is, not_both row.row.equality (is_zero (entry j row)) fails (positive_not_zero (entry j row) is))) rows none

pub all_upper_bounds : (j : ℕ) (rows : List Combination) → AllByRecursion (λ row. is_pivot j row ≡ false) rows
    → AllByRecursion (IsUpperBound j) (upper_bounds j rows)
all_upper_bounds j rows none =
    all_filter (λ (row : Combination). is_pivot j row ≡ false) (IsUpperBound j) (λ row. is_negative (entry j row))
    (λ row is fails. (is, not_both row.row.equality (is_zero (entry j row)) fails (negative_not_zero (entry j row) is))) rows none

pub all_pairs : (j : ℕ) (A : Combination → Type 0) (lowers uppers : List Combination) → AllByRecursion A (pairs j lowers uppers)
    → AllByRecursion (λ lower. AllByRecursion (λ upper. A (paired j lower upper)) uppers) lowers
all_pairs j A [] uppers all = tt
all_pairs j A (lower ∷ lowers) uppers all = (
  all_of_map A (paired j lower) uppers (all_front A (map (paired j lower) uppers) (pairs j lowers uppers) all),
  all_pairs j A lowers uppers (all_back A (map (paired j lower) uppers) (pairs j lowers uppers) all),
)
