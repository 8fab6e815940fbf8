use Rattle.std.proofs.Common.{◌≡◌, suc}
use Rattle.workers.specs.Alone.{IsTriedTo}
use Rattle.workers.proofs.alone.try_alignments.Given as goal

abbrev pub invariant-loop-k : goal.invariant-loop-k
invariant-loop-k l = (l.pool.subject ≡ l.subject) × IsTriedTo l.subject l.pool.items (suc l.k)
