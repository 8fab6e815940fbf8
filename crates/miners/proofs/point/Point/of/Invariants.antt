use Rattle.std.proofs.Common.{◌≡◌, ℕ, ◌<◌, ◌++◌, get_or, length}
use Rattle.std.specs.Prelude.{All, pos}
use Rattle.c_ast.specs.FitsRun.{FitsRun}
use Rattle.miners.specs.Kept.{value_within}
use Rattle.miners.proofs.point.Point.of.Given as goal

abbrev pub invariant-loop-place : goal.invariant-loop-place
invariant-loop-place l = record {
  size : length l.values ≡ 16;
  made : (i : ℕ) → i < l.place → get_or l.values i (pos 0) ≡ value_within l.width (l.first ++ l.second) i;
  fits : All FitsRun l.values;
}
