-- How great the numbers of the rows are that an elimination works with.
use Rattle.std.specs.Prelude.{◌<◌, ◌^◌, ℤ, unsigned_abs, All}
use Rattle.lin_terms.specs.Bounds.{FitsRow}
use Rattle.elimination.specs.Combination.{Combination}
use Rattle.elimination.specs.Joining.{numbers_of}

-- All numbers of the row are below 2^56 in size.
pub record IsFittingCombination (row : Combination) : Type 0 where
  pub constant : FitsRow row.row.constant
  pub coefs : All FitsRow row.row.coefs
  pub multipliers : All FitsRow row.multipliers

-- The number is far from the bounds of 128 bits, as sums of two products of numbers below 2^56 are.
abbrev pub IsSmall : ℤ → Type 0
IsSmall number = unsigned_abs number < 2 ^ 126

-- All numbers of the row are small.
abbrev pub IsSmallCombination : Combination → Type 0
IsSmallCombination row = All IsSmall (numbers_of row)
