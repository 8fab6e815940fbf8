-- Points: numbers over one denominator, and the sizes with which a row can be judged at one.
use Rattle.std.specs.Prelude.{◌^◌, ◌<◌, ◌≤◌, unsigned_abs, length, All}
use Rattle.lin_terms.specs.declared.point.Point.{Point}
use Rattle.lin_terms.specs.declared.row.Row.{Row}
use Rattle.lin_terms.specs.Row.{IsFittingRow}

-- The row can be judged at the point: with these bounds each sum of products stays below 2^127 in size.
pub record CanJudge (point : Point) (row : Row) : Type 0 where
  pub numbers : All (λ number. unsigned_abs number < 2 ^ 60) point.numbers
  pub denominator : unsigned_abs point.denominator < 2 ^ 60
  pub columns : length row.coefs ≤ 1024
  pub row_fits : IsFittingRow row
