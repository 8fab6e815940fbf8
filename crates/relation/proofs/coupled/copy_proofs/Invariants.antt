use Rattle.std.proofs.Common.{◌≡◌, ◌++◌, drop}
use Rattle.relation.proofs.coupled.copy_proofs.Given as goal

abbrev pub invariant-loop-multipliers : goal.invariant-loop-multipliers
invariant-loop-multipliers l = l.lists ++ drop l.multipliers-index l.proofs.lists ≡ l.proofs.lists
