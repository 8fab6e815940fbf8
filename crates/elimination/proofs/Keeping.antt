-- What a list keeps of the rows that join it, and what rows without a column keep of those that have it.
use Rattle.std.proofs.Common.{◌≡◌, ℕ, zero, suc, true, false, cond, List, [], ◌∷◌, ◌++◌, map, refl, length, Option, Some, None, Result, Ok, Err}
use Rattle.std.specs.Prelude.{ℤ, neg_ℤ, ◌*ℤ◌, int_lt, nat_le}
use Rattle.std.specs.List.{AllByRecursion}
use Rattle.std.proofs.lemmas.Bool.{cond_both}
use Rattle.elimination.specs.declared.answer.Limit.{Limit}
use Rattle.elimination.specs.declared.answer.Limit.TheVariants.{WideRow, ManyRows, Memory}
use Rattle.elimination.specs.declared.answer.EarlyEnd.{EarlyEnd}
use Rattle.elimination.specs.declared.answer.EarlyEnd.TheVariants.{Contradiction, AtLimit}
use Rattle.elimination.specs.Combination.{Combination, entry, is_zero, is_positive, is_negative, sign, size, combined}
use Rattle.elimination.specs.Column.{is_pivot, behind, pivot_of, reduced, paired, without, lower_bounds, upper_bounds, pairs, projected_by, projected}
use Rattle.elimination.specs.Joining.{numbers_of, primitive, is_wide, has_no_variable, allows, refuting_multipliers, judged, is_parallel, tighter}
use Rattle.elimination.specs.Joining.{placed, added, counted, admitted, joined, joined_each, list_of}
use Rattle.elimination.specs.Eliminated.{eliminate}
use Rattle.elimination.proofs.Lists.{all_by, all_weaker, all_append, all_map, all_filter}
use Rattle.elimination.proofs.Pivots.{Picked, pivot_parts, none_picked, IsLowerBound, IsUpperBound, all_lower_bounds, all_upper_bounds}

-- ---- joining

-- a limit of the method
abbrev pub IsOfMethod : Limit → Type 0
IsOfMethod WideRow = Unit {0}
IsOfMethod ManyRows = Unit {0}
IsOfMethod Memory = ⊥

module _ (P : Combination → Type 0) (R : List ℤ → Type 0) where
  all_placed : (rows : List Combination) (row : Combination) → AllByRecursion P rows → P row → AllByRecursion P (placed rows row)
  all_placed [] row all has = (has, tt)
  all_placed (earlier ∷ rows) row all has =
      let tighter_has = cond_both (int_lt row.row.constant earlier.row.constant) row earlier P (λ less. has) (λ not_less. all.0) in
      cond_both (is_parallel earlier row) (tighter earlier row ∷ rows) (earlier ∷ placed rows row) (AllByRecursion P)
      (λ parallel. (tighter_has, all.1)) (λ other. (all.0, all_placed rows row all.1 has))

  all_added : (rows : List Combination) (row : Combination) → AllByRecursion P rows → P row → AllByRecursion P (added rows row)
  all_added rows row all has =
      cond_both row.row.equality (rows ++ row ∷ []) (placed rows row) (AllByRecursion P)
      (λ equality. all_append P rows (row ∷ []) all (has, tt)) (λ inequality. all_placed rows row all has)

  -- the rows of a list have P, and multipliers that stop it have R
  abbrev pub Holding : Result (List Combination) EarlyEnd → Type 0
  Holding (Ok rows) = AllByRecursion P rows
  Holding (Err (Contradiction multipliers)) = R multipliers
  Holding (Err (AtLimit limit)) = IsOfMethod limit

  -- what a row that joins owes: kept it has P, and where it does not hold its multipliers have R
  pub record Owes (row : Combination) : Type 0 where
    pub kept : is_wide (numbers_of row) ≡ false → has_no_variable row.row.coefs ≡ false → P row
    pub failed : is_wide (numbers_of row) ≡ false → has_no_variable row.row.coefs ≡ true → allows row.row.equality row.row.constant ≡ false
        → R (refuting_multipliers row.row.constant row.multipliers)

  judged_holds : (rows : List Combination) (row : Combination) → is_wide (numbers_of row) ≡ false → has_no_variable row.row.coefs ≡ true
      → AllByRecursion P rows → Owes row → Holding (judged rows row)
  judged_holds rows row fits no_variable all joins =
      cond_both (allows row.row.equality row.row.constant) (Ok rows) (Err (Contradiction (refuting_multipliers row.row.constant row.multipliers))) Holding
      (λ allowed. all) (λ fails. joins.failed fits no_variable fails)

  counted_holds : (cap : ℕ) (rows : List Combination) → AllByRecursion P rows → Holding (counted cap rows)
  counted_holds cap rows all = cond_both (nat_le (length rows) cap) (Ok rows) (Err (AtLimit ManyRows)) Holding (λ few. all) (λ many. tt)

  admitted_holds : (cap : ℕ) (rows : List Combination) (row : Combination) → AllByRecursion P rows → Owes row → Holding (admitted cap rows row)
  admitted_holds cap rows row all joins =
      let by_variables : Result (List Combination) EarlyEnd = cond (has_no_variable row.row.coefs) (judged rows row) (counted cap (added rows row)) in
      cond_both (is_wide (numbers_of row)) (Err (AtLimit WideRow)) by_variables Holding (λ wide. tt)
      (λ fits. cond_both (has_no_variable row.row.coefs) (judged rows row) (counted cap (added rows row)) Holding
      (λ no_variable. judged_holds rows row fits no_variable all joins)
      (λ variable. counted_holds cap (added rows row) (all_added rows row all (joins.kept fits variable))))

  joined_each_holds : (cap : ℕ) (before : Result (List Combination) EarlyEnd) (later : List Combination) → Holding before
      → AllByRecursion (λ row. Owes (primitive row)) later → Holding (joined_each cap before later)
  joined_each_holds cap (Err stop) later holds joins = holds
  joined_each_holds cap (Ok rows) [] holds joins = holds
  joined_each_holds cap (Ok rows) (row ∷ later) holds joins =
      joined_each_holds cap (joined cap rows row) later (admitted_holds cap rows (primitive row) holds joins.0) joins.1

-- a new list of rows that have A
pub new_list_holds : (A P : Combination → Type 0) (R : List ℤ → Type 0) → ((row : Combination) → A row → Owes P R (primitive row))
    → (cap : ℕ) (rows : List Combination) → AllByRecursion A rows → Holding P R (list_of cap rows)
new_list_holds A P R joins cap rows all =
    joined_each_holds P R cap (Ok []) rows tt (all_weaker A (λ row. Owes P R (primitive row)) joins rows all)

-- ---- rows without a column

-- what the pivot and the other rows have
abbrev PickedHas : ℕ → (Combination → Type 0) → Option Picked → Type 0
PickedHas j A None = Unit {0}
PickedHas j A (Some picked) =
    A picked.0 × (picked.0.row.equality ≡ true) × (is_zero (entry j picked.0) ≡ false) × AllByRecursion A picked.1

behind_has : (j : ℕ) (A : Combination → Type 0) (row : Combination) (found : Option Picked) → A row → PickedHas j A found → PickedHas j A (behind row found)
behind_has j A row None has later = tt
behind_has j A row (Some picked) has later = (later.0, later.1, later.2, (has, later.3))

pivot_has : (j : ℕ) (A : Combination → Type 0) (rows : List Combination) → AllByRecursion A rows → PickedHas j A (pivot_of j rows)
pivot_has j A [] all = tt
pivot_has j A (row ∷ rows) all =
    cond_both (is_pivot j row) (Some (row, rows)) (behind row (pivot_of j rows)) (PickedHas j A)
    (λ is. let both = pivot_parts j row is in (all.0, both.0, both.1, all.1)) (λ other. behind_has j A row (pivot_of j rows) all.0 (pivot_has j A rows all.1))

-- the three ways in which a row without the column is made lead from A to B
pub record Steps (j : ℕ) (A B : Combination → Type 0) : Type 0 where
  pub flat : (row : Combination) → is_zero (entry j row) ≡ true → A row → B row
  pub reduce : (pivot row : Combination) → pivot.row.equality ≡ true → A pivot → A row
      → B (combined (size (entry j pivot)) row (neg_ℤ (sign (entry j pivot) *ℤ entry j row)) pivot)
  pub pair : (lower upper : Combination) → IsLowerBound j lower → IsUpperBound j upper → A lower → A upper → B (paired j lower upper)

module _ (j : ℕ) (A B : Combination → Type 0) (steps : Steps j A B) where
  without_has : (rows : List Combination) → AllByRecursion A rows → AllByRecursion B (without j rows)
  without_has rows all = all_filter A B (λ row. is_zero (entry j row)) steps.flat rows all

  reduced_has : (pivot row : Combination) → pivot.row.equality ≡ true → A pivot → A row → B (reduced j pivot row)
  reduced_has pivot row equality has_pivot has =
      cond_both (is_zero (entry j row)) row (combined (size (entry j pivot)) row (neg_ℤ (sign (entry j pivot) *ℤ entry j row)) pivot) B
      (λ is. steps.flat row is has) (λ other. steps.reduce pivot row equality has_pivot has)

  abbrev LowerHas : Combination → Type 0
  LowerHas row = A row × IsLowerBound j row

  abbrev UpperHas : Combination → Type 0
  UpperHas row = A row × IsUpperBound j row

  pairs_have : (lowers uppers : List Combination) → AllByRecursion LowerHas lowers → AllByRecursion UpperHas uppers → AllByRecursion B (pairs j lowers uppers)
  pairs_have [] uppers all_lower all_upper = tt
  pairs_have (lower ∷ lowers) uppers all_lower all_upper =
      all_append B (map (paired j lower) uppers) (pairs j lowers uppers)
      (all_map UpperHas B (paired j lower) (λ upper has. steps.pair lower upper all_lower.0.1 has.1 all_lower.0.0 has.0) uppers all_upper)
      (pairs_have lowers uppers all_lower.1 all_upper)

  lowers_have : (rows : List Combination) → AllByRecursion A rows → AllByRecursion A (lower_bounds j rows)
  lowers_have rows all = all_filter A A (λ row. is_positive (entry j row)) (λ row is has. has) rows all

  uppers_have : (rows : List Combination) → AllByRecursion A rows → AllByRecursion A (upper_bounds j rows)
  uppers_have rows all = all_filter A A (λ row. is_negative (entry j row)) (λ row is has. has) rows all

  projected_by_has : (rows : List Combination) (found : Option Picked) → pivot_of j rows ≡ found → PickedHas j A found → AllByRecursion A rows
      → AllByRecursion B (projected_by j rows found)
  projected_by_has rows None is has all =
      let none = none_picked j rows is in
      let lowers : List Combination = lower_bounds j rows in
      let uppers : List Combination = upper_bounds j rows in
      all_append B (without j rows) (pairs j lowers uppers) (without_has rows all)
      (pairs_have lowers uppers
      (all_by A (IsLowerBound j) LowerHas (λ row x y. (x, y)) lowers (lowers_have rows all) (all_lower_bounds j rows none))
      (all_by A (IsUpperBound j) UpperHas (λ row x y. (x, y)) uppers (uppers_have rows all) (all_upper_bounds j rows none)))
  projected_by_has rows (Some picked) is has all =
      all_map A B (reduced j picked.0) (λ row x. reduced_has picked.0 row has.1 has.0 x) picked.1 has.3

  pub projected_has : (rows : List Combination) → AllByRecursion A rows → AllByRecursion B (projected j rows)
  projected_has rows all = projected_by_has rows (pivot_of j rows) refl (pivot_has j A rows all) all

-- ---- all columns

-- what each step keeps stands to the end
module _ (P : Combination → Type 0) (R : List ℤ → Type 0) (joins : (row : Combination) → P row → Owes P R (primitive row)) (steps : (j : ℕ) → Steps j P P) where
  pub eliminate_holds : (cap left j : ℕ) (rows : Result (List Combination) EarlyEnd) → Holding P R rows → Holding P R (eliminate cap left j rows)
  eliminate_holds cap zero j rows holds = holds
  eliminate_holds cap (suc left) j (Err stop) holds = holds
  eliminate_holds cap (suc left) j (Ok rows) holds =
      eliminate_holds cap left (suc j) (list_of cap (projected j rows))
      (new_list_holds P P R joins cap (projected j rows) (projected_has j P P (steps j) rows holds))
