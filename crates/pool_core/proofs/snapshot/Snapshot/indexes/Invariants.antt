use Rattle.std.proofs.Common.{◌≡◌, ◌++◌, drop}
use Rattle.pool_core.proofs.snapshot.Snapshot.indexes.Given as goal

abbrev pub invariant-loop-at : goal.invariant-loop-at
invariant-loop-at l = l.made ++ drop l.at l.self.indexes ≡ l.self.indexes
