-- Points of rows.
use Rattle.std.specs.Prelude.{List}
use Rattle.lin_terms.specs.declared.row.Row.{Row}
use Rattle.lin_terms.specs.declared.point.Point.{Point}
use Rattle.lin_terms.specs.Row.{HasPoint}
use Rattle.farkas_check.specs.Refutes.{IsRefutable}
use Rattle.farkas_check.proofs.Laws.{no_point}
use Rattle.lin_prover.specs.Settles.{IsPointOf}

pub points_exclude : (rows : List Row) → HasPoint rows → ¬ IsRefutable rows
points_exclude rows point found =
    no_point rows found.multipliers found.refutes point.numbers point.denominator point.positive point.meets

-- a point that is tested is a point
pub has_point : (rows : List Row) (point : Point) → IsPointOf rows point → HasPoint rows
has_point rows point tested = record {
  numbers = point.numbers;
  denominator = point.denominator;
  positive = tested.positive;
  meets = λ i row stands. (tested.met i row stands).meets;
}

-- so no multipliers refute its rows
pub tested_excludes : (rows : List Row) (point : Point) → IsPointOf rows point → ¬ IsRefutable rows
tested_excludes rows point tested = points_exclude rows (has_point rows point tested)
