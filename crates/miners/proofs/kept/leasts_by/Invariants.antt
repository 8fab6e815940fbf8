use Rattle.std.proofs.Common.{◌≡◌, ◌++◌, map, drop}
use Rattle.miners.specs.Kept.{least_at}
use Rattle.miners.proofs.kept.leasts_by.Given as goal

abbrev pub invariant-loop-shape : goal.invariant-loop-shape
invariant-loop-shape l = l.made.items ++ map (least_at l.point) (drop l.shape-index l.shapes) ≡ map (least_at l.point) l.shapes
