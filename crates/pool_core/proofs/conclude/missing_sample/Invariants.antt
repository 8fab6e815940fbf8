use Rattle.pool_core.specs.Plays.{HaveSamples}
use Rattle.pool_core.proofs.conclude.missing_sample.Given as goal

abbrev pub invariant-loop-index : goal.invariant-loop-index
invariant-loop-index l = HaveSamples l.log.items l.index
