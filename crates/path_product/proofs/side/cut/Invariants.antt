use Rattle.std.proofs.Common.{◌≡◌, take, length}
use Rattle.path_product.proofs.side.cut.Given as goal

abbrev pub invariant-loop-rows : goal.invariant-loop-rows
invariant-loop-rows l = take l.kept l.rows ≡ take l.kept l.initial.rows

abbrev pub decreases-loop-rows : goal.decreases-loop-rows
decreases-loop-rows l = length l.rows
