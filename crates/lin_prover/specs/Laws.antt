-- Laws of rows that are refutable, and of rows that have a point. Each is a clause of a call that does nothing.
use Rattle.std.specs.Prelude.{◌≡◌, ℕ, pos, List, ◌++◌, map, replicate, slice_get, All, Some}
use Rattle.lin_terms.specs.declared.row.Row.{Row}
use Rattle.lin_terms.specs.Row.{HasPoint}
use Rattle.farkas_check.specs.Refutes.{IsRefutable}
use Rattle.farkas_check.specs.Laws.{AreAlike}

-- Rows that have a point are refuted by no multipliers, of whatever size.
abbrev pub PointsExcludeMultipliers : Type 0
PointsExcludeMultipliers = (rows : List Row) → HasPoint rows → ¬ IsRefutable rows

-- The row stands at this place among the rows, where it may have more columns of zeros.
pub record StandsAmong (rows : List Row) (row : Row) : Type 0 where
  pub place : ℕ
  pub found : Row
  pub stands : slice_get rows place ≡ Some found
  pub alike : AreAlike row found

-- Rows that are refutable stay so among more rows, whatever their order is there: each of them has a place.
abbrev pub RefutedAmongMoreRows : Type 0
RefutedAmongMoreRows = (rows more : List Row) → All (StandsAmong more) rows → IsRefutable rows → IsRefutable more

-- the row with so many columns of zeros in front
abbrev pub behind_zeros : ℕ → Row → Row
behind_zeros columns row = record {
  coefs = replicate columns (pos 0) ++ row.coefs;
  constant = row.constant;
  equality = row.equality;
}

-- Rows that are refutable stay so behind columns of zeros.
abbrev pub RefutedBehindZeros : Type 0
RefutedBehindZeros = (columns : ℕ) (rows : List Row) → IsRefutable rows → IsRefutable (map (behind_zeros columns) rows)
