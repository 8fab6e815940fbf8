use Rattle.std.proofs.Common.{ℕ, ◌<◌, List, get_or}
use Rattle.std.specs.Prelude.{All}
use Rattle.horn_clauses.specs.declared.atom.Atom.{Atom}
use Rattle.horn_clauses.specs.declared.node.Node.{Node}
use Rattle.relation.specs.Coupled.{IsSmallAtom}
use Rattle.relation.proofs.family.has_small_atoms.Given as goal

abbrev pub invariant-loop-entry : goal.invariant-loop-entry
invariant-loop-entry l = (k : ℕ) (d : Node × List Atom) → k < l.entry-index → All IsSmallAtom (get_or l.family.nodes k d).1
