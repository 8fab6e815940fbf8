use Rattle.std.proofs.Common.{◌≡◌, drop}
use Rattle.horn_clauses.specs.Family.{atoms_among}
use Rattle.horn_clauses.proofs.family.Family.at.Given as goal

abbrev pub invariant-loop-entry : goal.invariant-loop-entry
invariant-loop-entry l = atoms_among (drop l.entry-index l.self.nodes) l.node ≡ atoms_among l.self.nodes l.node
