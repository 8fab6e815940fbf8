use Rattle.std.proofs.Common.{ℕ, ◌<◌, List, get_or}
use Rattle.horn_clauses.specs.declared.atom.Atom.{Atom}
use Rattle.horn_clauses.specs.declared.node.Node.{Node}
use Rattle.horn_clauses.specs.Family.{atoms_at}
use Rattle.houdini.specs.Within.{IsSublist, candidates_or_false}
use Rattle.pool_core.proofs.pool.is_drawn_from.Given as goal

abbrev pub invariant-loop-entry : goal.invariant-loop-entry
invariant-loop-entry l = (k : ℕ) (d : Node × List Atom) → k < l.entry-index
    → IsSublist (get_or l.family.nodes k d).1 (candidates_or_false (atoms_at l.candidates (get_or l.family.nodes k d).0))
