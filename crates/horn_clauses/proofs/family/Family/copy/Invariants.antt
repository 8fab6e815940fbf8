use Rattle.std.proofs.Common.{◌≡◌, ◌++◌, drop}
use Rattle.horn_clauses.proofs.family.Family.copy.Given as goal

abbrev pub invariant-loop-entry : goal.invariant-loop-entry
invariant-loop-entry l = l.nodes ++ drop l.entry-index l.self.nodes ≡ l.self.nodes
