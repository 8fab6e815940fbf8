-- How rows join a list, one after the other, and what keeps them from it.
use Rattle.std.specs.Prelude.{ℕ, ◌^◌, max, Bool, true, false, ◌&&◌, not, if◌then◌else◌, nat_le, int_lt, ℤ, neg_ℤ, unsigned_abs, List, [], ◌∷◌, ◌++◌, map, length, Result, Ok, Err}
use Rattle.std.specs.List.{list_all, list_any}
use Rattle.std.specs.Ordering.{int_eq}
use lib.Pointwise.{pointwise}
use Rattle.lin_terms.specs.Divisor.{gcd_of, floor_div}
use Rattle.lin_terms.specs.Tight.{divided_row}
use Rattle.elimination.specs.declared.answer.Limit.TheVariants.{WideRow, ManyRows}
use Rattle.elimination.specs.declared.answer.EarlyEnd.{EarlyEnd}
use Rattle.elimination.specs.declared.answer.EarlyEnd.TheVariants.{Contradiction, AtLimit}
use Rattle.elimination.specs.Combination.{Combination, is_zero, is_positive, is_negative}

-- ---- small numbers

-- the constant, the coefficients and the multipliers
abbrev pub numbers_of : Combination → List ℤ
numbers_of row = row.row.constant ∷ (row.row.coefs ++ row.multipliers)

-- all numbers over a divisor
abbrev pub divided : ℕ → Combination → Combination
divided divisor row = record {
  row = divided_row divisor row.row;
  multipliers = map (λ x. floor_div x divisor) row.multipliers;
}

-- the row over the greatest common divisor of all its numbers, so that its multipliers stay whole
abbrev pub primitive : Combination → Combination
primitive row = divided (max 1 (gcd_of (numbers_of row))) row

-- Whether a number is 2^56 or more in size.
abbrev pub is_wide : List ℤ → Bool
is_wide numbers = list_any (λ number. nat_le (2 ^ 56) (unsigned_abs number)) numbers

-- ---- rows without variables

-- Whether each coefficient is 0.
abbrev pub has_no_variable : List ℤ → Bool
has_no_variable coefs = list_all is_zero coefs

-- Whether a row of this kind without variables holds.
abbrev pub allows : Bool → ℤ → Bool
allows true constant = is_zero constant
allows false constant = not (is_negative constant)

-- the multipliers with which the constant of a row that does not hold is negative: of an equality it may be positive
abbrev pub refuting_multipliers : ℤ → List ℤ → List ℤ
refuting_multipliers constant multipliers = if is_positive constant then map neg_ℤ multipliers else multipliers

-- A row without variables is left out where it holds, and is a contradiction otherwise.
abbrev pub judged : List Combination → Combination → Result (List Combination) EarlyEnd
judged rows row =
    if allows row.row.equality row.row.constant then Ok rows
    else Err (Contradiction (refuting_multipliers row.row.constant row.multipliers))

-- ---- rows with variables

-- Whether an earlier row is an inequality with the same coefficients.
abbrev pub is_parallel : Combination → Combination → Bool
is_parallel earlier row = not earlier.row.equality && pointwise int_eq earlier.row.coefs row.row.coefs

-- of parallel inequalities the one that says more: the new one where its constant is less
abbrev pub tighter : Combination → Combination → Combination
tighter earlier row = if int_lt row.row.constant earlier.row.constant then row else earlier

-- An inequality goes to the end, or takes or leaves the place of the first parallel one.
abbrev pub placed : List Combination → Combination → List Combination
placed [] row = row ∷ []
placed (earlier ∷ rows) row =
    if is_parallel earlier row then tighter earlier row ∷ rows else earlier ∷ placed rows row

-- An equality goes to the end.
abbrev pub added : List Combination → Combination → List Combination
added rows row = if row.row.equality then rows ++ row ∷ [] else placed rows row

-- The list is what is wanted, unless it has more rows than the cap allows.
abbrev pub counted : ℕ → List Combination → Result (List Combination) EarlyEnd
counted cap rows = if nat_le (length rows) cap then Ok rows else Err (AtLimit ManyRows)

-- ---- all rows

-- the list with a row whose numbers are below 2^56 in size, or what ends it
abbrev pub kept : ℕ → List Combination → Combination → Result (List Combination) EarlyEnd
kept cap rows row =
    if has_no_variable row.row.coefs then judged rows row
    else counted cap (added rows row)

-- the list with a primitive row, or what ends it
abbrev pub admitted : ℕ → List Combination → Combination → Result (List Combination) EarlyEnd
admitted cap rows row = if is_wide (numbers_of row) then Err (AtLimit WideRow) else kept cap rows row

-- the list with the row
abbrev pub joined : ℕ → List Combination → Combination → Result (List Combination) EarlyEnd
joined cap rows row = admitted cap rows (primitive row)

-- the list with these rows, in order, up to the first that ends it
abbrev pub joined_each : ℕ → Result (List Combination) EarlyEnd → List Combination → Result (List Combination) EarlyEnd
joined_each cap (Err early) later = Err early
joined_each cap (Ok rows) [] = Ok rows
joined_each cap (Ok rows) (row ∷ later) = joined_each cap (joined cap rows row) later

-- a new list of these rows
abbrev pub list_of : ℕ → List Combination → Result (List Combination) EarlyEnd
list_of cap rows = joined_each cap (Ok []) rows
