-- Farkas' lemma as a check: rows times their multipliers that add up to a negative number which has to be at least 0.
use Rattle.std.specs.Prelude.{◌≡◌, ℕ, ◌+◌, ◌<◌, ◌≤◌, ℤ, pos, negsuc, ◌≤ℤ◌, Bool, List, length, map, slice_index_or, All}
use Rattle.std.specs.Bool.{OnFalse}
use Rattle.std.specs.List.{AllZip}
use Rattle.lin_terms.specs.declared.row.Row.{Row}
use Rattle.lin_terms.specs.Bounds.{FitsRow}
use Rattle.lin_terms.specs.Vectors.{dot}
use Rattle.lin_terms.specs.Row.{HaveOneLength, IsFittingRow}

-- the coefficients of variable j, row by row
abbrev pub column : ℕ → List Row → List ℤ
column j rows = map (λ row. slice_index_or row.coefs j (pos 0)) rows

-- the constants, row by row
abbrev pub constants : List Row → List ℤ
constants rows = map (λ row. row.constant) rows

-- whether they are equalities, row by row
abbrev pub equalities : List Row → List Bool
equalities rows = map (λ row. row.equality) rows

-- A multiplier is not negative, except at an equality.
abbrev pub MayMultiply : Row → ℤ → Type 0
MayMultiply row multiplier = OnFalse row.equality (pos 0 ≤ℤ multiplier)

-- There is a multiplier for each row, and the rows times their multipliers add up to one that has no variable and a
-- constant of at most -1.
pub record Refutes (rows : List Row) (multipliers : List ℤ) : Type 0 where
  pub signs : AllZip MayMultiply rows multipliers
  pub no_variable : (j : ℕ) → dot multipliers (column j rows) ≡ pos 0
  pub negative_constant : dot multipliers (constants rows) ≤ℤ negsuc 0

-- The same, where of the columns only those of a block of 32 are looked at: `first` and those behind it.
pub record RefutesBlock (first : ℕ) (rows : List Row) (multipliers : List ℤ) : Type 0 where
  pub signs : AllZip MayMultiply rows multipliers
  pub no_variable : (k : ℕ) → k < 32 → dot multipliers (column (first + k) rows) ≡ pos 0
  pub negative_constant : dot multipliers (constants rows) ≤ℤ negsuc 0

-- Some multipliers, of any size, refute the rows.
pub record IsRefutable (rows : List Row) : Type 0 where
  pub multipliers : List ℤ
  pub refutes : Refutes rows multipliers

-- what the check may be asked: with these bounds each sum of products stays below 2^124 in size
pub record IsCheckable (rows : List Row) (multipliers : List ℤ) : Type 0 where
  pub many : length rows ≤ 4096
  pub one_length : HaveOneLength rows
  pub as_many : length multipliers ≡ length rows
  pub rows_fit : All IsFittingRow rows
  pub multipliers_fit : All FitsRow multipliers
