use Rattle.std.proofs.Common.{take}
use Rattle.pool_core.specs.History.{HaveEqualResults}
use Rattle.pool_core.proofs.conclude.first_difference.Given as goal

abbrev pub invariant-loop-place : goal.invariant-loop-place
invariant-loop-place l = HaveEqualResults (take l.place l.items)
