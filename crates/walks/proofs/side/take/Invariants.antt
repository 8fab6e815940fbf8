use Rattle.std.proofs.Common.{◌≡◌}
use Rattle.walks.specs.Side.{taken}
use Rattle.walks.proofs.side.take.Given as goal

abbrev pub invariant-loop-left : goal.invariant-loop-left
invariant-loop-left l = taken l.trace l.left l.at ≡ taken l.trace l.most l.from

abbrev pub decreases-loop-left : goal.decreases-loop-left
decreases-loop-left l = l.left
