use Rattle.std.proofs.Common.{◌≡◌, ◌++◌, reverse, length}
use Rattle.houdini.proofs.cut.reversed.Given as goal

abbrev pub invariant-loop-item : goal.invariant-loop-item
invariant-loop-item g l = l.made.items ++ reverse l.left ≡ reverse l.initial.left

abbrev pub decreases-loop-item : goal.decreases-loop-item
decreases-loop-item g l = length l.left
