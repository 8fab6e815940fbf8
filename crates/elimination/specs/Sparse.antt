-- Multipliers that are kept as the list of those that are not 0, by rising number of their rows.
use Rattle.std.specs.Prelude.{◌≡◌, ℕ, zero, suc, ◌≤◌, ◌==◌, if◌then◌else◌, ℤ, pos, ◌+ℤ◌, List, [], ◌∷◌, map}
use Rattle.std.specs.Int.{int_div_euclid}
use Rattle.elimination.specs.declared.multipliers.Multiplier.{Multiplier}

-- the multiplier of a row: the sum of those that the list has for it, of which there is one at most
abbrev pub at : List Multiplier → ℕ → ℤ
at [] row = pos 0
at (entry ∷ entries) row = (if entry.row == row then entry.value else pos 0) +ℤ at entries row

-- the multipliers of `count` rows, from row `first` on
abbrev pub table : ℕ → ℕ → List Multiplier → List ℤ
table first zero entries = []
table first (suc count) entries = at entries first ∷ table (suc first) count entries

-- The numbers of the rows rise, from `low` on and below `high`.
abbrev pub IsRising : ℕ → ℕ → List Multiplier → Type 0
IsRising low high [] = low ≤ high
IsRising low high (entry ∷ entries) = (low ≤ entry.row) × IsRising (suc entry.row) high entries

-- the number of the first row, or `count` where there is none
abbrev pub first_row : ℕ → List Multiplier → ℕ
first_row count [] = count
first_row count (entry ∷ entries) = entry.row

-- the multiplier of a row that stands in front, if it does
abbrev pub front_of : ℕ → List Multiplier → ℤ
front_of row [] = pos 0
front_of row (entry ∷ entries) = if entry.row == row then entry.value else pos 0

-- the list behind a row that stands in front, if it does
abbrev pub behind_row : ℕ → List Multiplier → List Multiplier
behind_row row [] = []
behind_row row (entry ∷ entries) = if entry.row == row then entries else entry ∷ entries

-- The list says the same as before and has this multiplier of a later row too.
pub record IsAdded (row : ℕ) (value : ℤ) (before after : List Multiplier) : Type 0 where
  pub sums : (other : ℕ) → at after other ≡ at before other +ℤ (if row == other then value else pos 0)
  pub rising : (high : ℕ) → IsRising 0 high before → high ≤ row → IsRising 0 (suc row) after

-- a multiplier over a divisor, rounded down
abbrev pub quotient_of : ℤ → Multiplier → Multiplier
quotient_of divisor entry = record { row = entry.row; value = int_div_euclid entry.value divisor }

-- all multipliers over a divisor, rounded down
abbrev pub quotients_of : ℤ → List Multiplier → List Multiplier
quotients_of divisor entries = map (quotient_of divisor) entries
