use Rattle.std.proofs.Common.{◌+◌}
use Rattle.pool_core.specs.Plays.{AreAllTried}
use Rattle.pool_core.proofs.conclude.missing_alignment.Given as goal

abbrev pub invariant-loop-k : goal.invariant-loop-k
invariant-loop-k l = AreAllTried l.log.items (l.k + 1)
