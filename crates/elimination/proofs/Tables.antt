-- The list of all multipliers, and the list of those that are kept.
use Rattle.std.proofs.Common.{◌≡◌, ◌↔◌, ℕ, zero, suc, ◌+◌, ◌-◌, ◌<◌, ◌≤◌, Bool, true, false, cond, eqb, List, [], ◌∷◌, ◌++◌, map, arith, refl, sym}
use Rattle.std.proofs.Common.{◌∙◌, ap, subst, replicate, append_assoc}
use Rattle.std.specs.Int.{int_div_euclid}
use Rattle.std.specs.Prelude.{ℤ, pos, negsuc, ◌<ℤ◌, ◌+ℤ◌, ◌*ℤ◌, All}
use Rattle.std.specs.List.{AllByRecursion}
use Rattle.std.proofs.lemmas.Int.{ints}
use Rattle.std.proofs.lemmas.Bool.{eq-eqb}
use Rattle.std.proofs.lemmas.Bool.Decides.{nat_tests}
use Rattle.std.proofs.lemmas.List.Elements.{All-from_recursion, recursion_from_All}
use Rattle.lin_terms.specs.Vectors.{scaled}
use Rattle.lin_terms.specs.Bounds.{FitsRow}
use Rattle.elimination.specs.declared.multipliers.Multiplier.{Multiplier}
use Rattle.elimination.specs.Sparse.{at, table, IsRising, front_of, behind_row, quotients_of}
use Rattle.elimination.proofs.Merging.{rising_bounds, rising_behind, from_first, at-behind}

-- ---- rows that are not there

at_before : (row low high : ℕ) (entries : List Multiplier) → IsRising low high entries → row < low → at entries row ≡ pos 0
at_before row low high [] rising before = refl
at_before row low high (entry ∷ entries) rising before =
    let other : eqb entry.row row ≡ false = grind (arith, nat_tests, rising.0) in
    rw (other, at_before row (suc entry.row) high entries rising.1 (omega (arith, rising.0))) refl

plus_zero : (z : ℤ) → z +ℤ pos 0 ≡ z
plus_zero z = omega (arith, ints)

zero_plus : (z : ℤ) → pos 0 +ℤ z ≡ z
zero_plus z = omega (arith, ints)

at_own : (low high : ℕ) (entry : Multiplier) (entries : List Multiplier) → IsRising low high (entry ∷ entries) → at (entry ∷ entries) entry.row ≡ entry.value
at_own low high entry entries rising =
    rw (eq-eqb entry.row entry.row refl, at_before entry.row (suc entry.row) high entries rising.1 (omega arith)) (plus_zero entry.value)

at_later : (low high row : ℕ) (entry : Multiplier) (entries : List Multiplier) → entry.row < row → at (entry ∷ entries) row ≡ at entries row
at_later low high row entry entries later =
    let other : eqb entry.row row ≡ false = grind (arith, nat_tests) in
    rw other (zero_plus (at entries row))

-- ---- what all multipliers have, and what those that are kept have

module _ (P : ℤ → Type 0) where
  abbrev pub EntriesHave : List Multiplier → Type 0
  EntriesHave entries = AllByRecursion (λ entry. P entry.value) entries

  row_case : (test : Bool) (first row : ℕ) (entries : List Multiplier) → eqb first row ≡ test → P (at entries first)
      → (suc first ≤ row → P (at entries row)) → first ≤ row → P (at entries row)
  row_case true first row entries is here later from = let same : first ≡ row = grind (arith, nat_tests) in subst (λ n. P (at entries n)) same here
  row_case false first row entries is here later from = later (grind (arith, nat_tests))

  rows_of_table : (first count : ℕ) (entries : List Multiplier) → AllByRecursion P (table first count entries)
      → (row : ℕ) → first ≤ row → row < first + count → P (at entries row)
  rows_of_table first zero entries all row from below = absurd (omega arith)
  rows_of_table first (suc count) entries all row from below =
      row_case (eqb first row) first row entries refl all.0 (λ after. rows_of_table (suc first) count entries all.1 row after (omega arith)) from

  entries_of_rows : (low high : ℕ) (entries : List Multiplier) → IsRising low high entries → ((row : ℕ) → low ≤ row → row < high → P (at entries row))
      → EntriesHave entries
  entries_of_rows low high [] rising rows = tt
  entries_of_rows low high (entry ∷ entries) rising rows =
      let bound = rising_bounds (suc entry.row) high entries rising.1 in (
        subst P (at_own low high entry entries rising) (rows entry.row rising.0 (omega arith)),
        entries_of_rows (suc entry.row) high entries rising.1
            (λ row from below. subst P (at_later low high row entry entries (omega arith)) (rows row (omega (arith, rising.0)) below)),
      )

  pub entries_have : (count : ℕ) (entries : List Multiplier) → IsRising 0 count entries → AllByRecursion P (table 0 count entries) → EntriesHave entries
  entries_have count entries rising all =
      entries_of_rows 0 count entries rising (λ row from below. rows_of_table 0 count entries all row from (omega arith))

  entry_case : (test : Bool) (low high row : ℕ) (entry : Multiplier) (entries : List Multiplier) → eqb entry.row row ≡ test
      → IsRising low high (entry ∷ entries)
      → P entry.value → P (at entries row) → P (at (entry ∷ entries) row)
  entry_case true low high row entry entries is rising here later =
      let same : entry.row ≡ row = grind (arith, nat_tests) in
      subst (λ n. P (at (entry ∷ entries) n)) same (subst P (sym (at_own low high entry entries rising)) here)
  entry_case false low high row entry entries is rising here later = rw is (subst P (sym (zero_plus (at entries row))) later)

  at_has : (low high row : ℕ) (entries : List Multiplier) → P (pos 0) → IsRising low high entries → EntriesHave entries → P (at entries row)
  at_has low high row [] is_zero rising all = is_zero
  at_has low high row (entry ∷ entries) is_zero rising all =
      entry_case (eqb entry.row row) low high row entry entries refl rising all.0 (at_has (suc entry.row) high row entries is_zero rising.1 all.1)

  table_of : (low high first count : ℕ) (entries : List Multiplier) → P (pos 0) → IsRising low high entries → EntriesHave entries
      → AllByRecursion P (table first count entries)
  table_of low high first zero entries is_zero rising all = tt
  table_of low high first (suc count) entries is_zero rising all =
      (at_has low high first entries is_zero rising all, table_of low high (suc first) count entries is_zero rising all)

  pub table_has : (count : ℕ) (entries : List Multiplier) → P (pos 0) → IsRising 0 count entries → EntriesHave entries
      → AllByRecursion P (table 0 count entries)
  table_has count entries is_zero rising all = table_of 0 count 0 count entries is_zero rising all

-- ---- quotients

int_zero : (divisor : ℤ) → pos 0 <ℤ divisor → int_div_euclid (pos 0) divisor ≡ pos 0
int_zero (pos zero) positive = absurd positive.lt
int_zero (pos (suc n)) positive = omega (arith, ints)
int_zero (negsuc n) positive = absurd positive.lt

module _ (divisor : ℤ) (positive : pos 0 <ℤ divisor) where
  pub rising-quotients : (low high : ℕ) (entries : List Multiplier) → IsRising low high entries → IsRising low high (quotients_of divisor entries)
  rising-quotients low high [] rising = rising
  rising-quotients low high (entry ∷ entries) rising = (rising.0, rising-quotients (suc entry.row) high entries rising.1)

  quotient_case : (test : Bool) (value sum : ℤ) → (test ≡ true → sum ≡ pos 0)
      → cond test (int_div_euclid value divisor) (pos 0) +ℤ int_div_euclid sum divisor ≡ int_div_euclid (cond test value (pos 0) +ℤ sum) divisor
  quotient_case true value sum others =
      rw (others refl, int_zero divisor positive, plus_zero value) (plus_zero (int_div_euclid value divisor))
  quotient_case false value sum others = rw (zero_plus sum) (zero_plus (int_div_euclid sum divisor))

  at-quotients : (low high row : ℕ) (entries : List Multiplier) → IsRising low high entries
      → at (quotients_of divisor entries) row ≡ int_div_euclid (at entries row) divisor
  at-quotients low high row [] rising = sym (int_zero divisor positive)
  at-quotients low high row (entry ∷ entries) rising =
      ap (λ t. cond (eqb entry.row row) (int_div_euclid entry.value divisor) (pos 0) +ℤ t) (at-quotients (suc entry.row) high row entries rising.1)
      ∙ quotient_case (eqb entry.row row) entry.value (at entries row)
      (λ is. let same : entry.row ≡ row = grind (arith, nat_tests) in at_before row (suc entry.row) high entries rising.1 (omega arith))

  table_from : (count first : ℕ) (entries : List Multiplier) → ((row : ℕ) → at (quotients_of divisor entries) row ≡ int_div_euclid (at entries row) divisor)
      → table first count (quotients_of divisor entries) ≡ map (λ x. int_div_euclid x divisor) (table first count entries)
  table_from zero first entries each = refl
  table_from (suc count) first entries each = rw (each first, table_from count (suc first) entries each) refl

  pub table-quotients : (count : ℕ) (entries : List Multiplier) → IsRising 0 count entries
      → table 0 count (quotients_of divisor entries) ≡ map (λ x. int_div_euclid x divisor) (table 0 count entries)
  table-quotients count entries rising = table_from count 0 entries (λ row. at-quotients 0 count row entries rising)

-- ---- row after row

at_front : (row count : ℕ) (left : List Multiplier) → IsRising row count left → at left row ≡ front_of row left
at_front row count [] rising = refl
at_front row count (entry ∷ left) rising =
    rw (at_before row (suc entry.row) count left rising.1 (omega (arith, rising.0))) (plus_zero (front_of row (entry ∷ left)))

table_same : (first count : ℕ) (xs ys : List Multiplier) → ((row : ℕ) → first ≤ row → at xs row ≡ at ys row) → table first count xs ≡ table first count ys
table_same first zero xs ys each = refl
table_same first (suc count) xs ys each =
    rw (each first (omega arith), table_same (suc first) count xs ys (λ row from. each row (omega arith))) refl

at_behind_later : (row later : ℕ) (left : List Multiplier) → suc row ≤ later → at left later ≡ at (behind_row row left) later
at_behind_later row later left after =
    let other : eqb row later ≡ false = grind (arith, nat_tests) in
    at-behind left row later ∙ ap (λ t. cond t (front_of row left) (pos 0) +ℤ at (behind_row row left) later) other ∙ zero_plus (at (behind_row row left) later)

-- the multipliers of the rows from `row` on
table_step : (row count : ℕ) (left : List Multiplier) → row < count → IsRising row count left
    → table row (count - row) left ≡ front_of row left ∷ table (suc row) (count - suc row) (behind_row row left)
table_step row count left below rising =
    let more : count - row ≡ suc (count - suc row) = omega arith in
    rw more (rw (
      at_front row count left rising,
      table_same (suc row) (count - suc row) left (behind_row row left)
          (λ later after. at_behind_later row later left after),
    ) refl)

pub list_step : (times : ℤ) (row count : ℕ) (left : List Multiplier) (made after all : List ℤ) → row < count → IsRising row count left
    → made ++ scaled times (table row (count - row) left) ≡ all → after ≡ made ++ (times *ℤ front_of row left) ∷ []
    → after ++ scaled times (table (row + 1) (count - (row + 1)) (behind_row row left)) ≡ all
list_step times row count left made after all below rising so_far is =
    let next : row + 1 ≡ suc row = omega arith in
    rw (next, is)
    (append_assoc made ((times *ℤ front_of row left) ∷ []) (scaled times (table (suc row) (count - suc row) (behind_row row left)))
    ∙ ap (λ t. made ++ scaled times t) (sym (table_step row count left below rising)) ∙ so_far)

pub rising_step : (row count : ℕ) (left : List Multiplier) → row < count → IsRising row count left → IsRising (row + 1) count (behind_row row left)
rising_step row count left below rising =
    let next : row + 1 ≡ suc row = omega arith in
    rw next (rising_behind row count row left rising (from_first row count left rising) below)

-- ---- a multiplier alone

zeros_behind : (first count row : ℕ) (value : ℤ) → row < first → table first count (record { row = row; value = value } ∷ []) ≡ replicate count (pos 0)
zeros_behind first zero row value past = refl
zeros_behind first (suc count) row value past =
    let other : eqb row first ≡ false = grind (arith, nat_tests) in
    rw (other, zeros_behind (suc first) count row value (omega arith)) refl

pub table-unit : (first before behind row : ℕ) (value : ℤ) → row ≡ first + before
    → table first (before + suc behind) (record { row = row; value = value } ∷ []) ≡ replicate before (pos 0) ++ value ∷ replicate behind (pos 0)
table-unit first zero behind row value is =
    let count : 0 + suc behind ≡ suc behind = omega arith in
    let same : eqb row first ≡ true = grind (arith, nat_tests) in
    rw count (rw (same, plus_zero value, zeros_behind (suc first) behind row value (omega arith)) refl)
table-unit first (suc before) behind row value is =
    let count : suc before + suc behind ≡ suc (before + suc behind) = omega arith in
    let other : eqb row first ≡ false = grind (arith, nat_tests) in
    rw count (rw (other, table-unit (suc first) before behind row value (omega arith)) refl)

-- ---- as the code has them

pub fitting_entries : (count : ℕ) (entries : List Multiplier) (all : List ℤ) → IsRising 0 count entries → table 0 count entries ≡ all → All FitsRow all
    → All (λ entry. FitsRow entry.value) entries
fitting_entries count entries all rising is fits =
    All-from_recursion (λ (entry : Multiplier). FitsRow entry.value) entries
    (entries_have FitsRow count entries rising (recursion_from_All FitsRow (table 0 count entries) (subst (All FitsRow) (sym is) fits)))

pub fitting_table : (count : ℕ) (entries : List Multiplier) (all : List ℤ) → IsRising 0 count entries → table 0 count entries ≡ all
    → All (λ entry. FitsRow entry.value) entries ↔ All FitsRow all
fitting_table count entries all rising is = (
  λ fits. subst (All FitsRow) is (All-from_recursion FitsRow (table 0 count entries)
      (table_has FitsRow count entries (omega arith) rising (recursion_from_All (λ (entry : Multiplier). FitsRow entry.value) entries fits))),
  λ fits. fitting_entries count entries all rising is fits,
)
