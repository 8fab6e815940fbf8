use Rattle.std.proofs.Common.{ℕ, ◌<◌, get_or}
use Rattle.horn_clauses.specs.declared.atom.Atom.{Atom}
use Rattle.horn_clauses.specs.Obligations.{FitsNode}
use Rattle.relation.proofs.family.fit_node.Given as goal

abbrev pub invariant-loop-atom : goal.invariant-loop-atom
invariant-loop-atom l = (k : ℕ) (d : Atom) → k < l.atom-index → FitsNode l.width (get_or l.atoms k d)
