use Rattle.std.proofs.Common.{◌≡◌, ◌++◌, length, reverse}
use Rattle.c_check.proofs.unit.vec_of.Given as goal

abbrev pub invariant-loop-item : goal.invariant-loop-item
invariant-loop-item g l = l.left ++ reverse l.found.items ≡ l.initial.left

abbrev pub decreases-loop-item : goal.decreases-loop-item
decreases-loop-item g l = length l.left
