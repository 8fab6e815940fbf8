use Rattle.std.proofs.Common.{◌≡◌, ◌++◌, drop}
use Rattle.pool_core.proofs.pages.again.Given as goal

abbrev pub invariant-loop-added : goal.invariant-loop-added
invariant-loop-added l = l.made ++ drop l.added-index l.pairs ≡ l.pairs
