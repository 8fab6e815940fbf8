use Rattle.std.proofs.Common.{◌≡◌}
use Rattle.workers.specs.Alone.{IsSampledTo}
use Rattle.workers.proofs.alone.take_samples.Given as goal

abbrev pub invariant-loop-index : goal.invariant-loop-index
invariant-loop-index l = (l.pool.subject ≡ l.subject) × IsSampledTo l.subject l.pool.items l.index
