-- Families: what one says at a node.
use Rattle.std.specs.Prelude.{if◌then◌else◌, ℤ, List, [], ◌∷◌, Option, Some, None, IsSomeAnd, All}
use Rattle.horn_clauses.specs.declared.atom.Atom.{Atom}
use Rattle.horn_clauses.specs.declared.node.Node.{Node}
use Rattle.horn_clauses.specs.declared.family.Family.{Family}
use Rattle.horn_clauses.specs.Atom.{AtomHolds}
use Rattle.horn_clauses.specs.Node.{is_same_node}

-- The atoms of the first entry for the node, where there is one.
abbrev pub atoms_among : List (Node × List Atom) → Node → Option (List Atom)
atoms_among [] node = None
atoms_among (entry ∷ entries) node = if is_same_node entry.0 node then Some entry.1 else atoms_among entries node

-- The family's atoms at the node, where it has the node.
abbrev pub atoms_at : Family → Node → Option (List Atom)
atoms_at family node = atoms_among family.nodes node

-- The values, those of side A's place and then those of side B's, are in the family at the node: it has the node, and
-- all atoms there hold.
abbrev pub InFamily : Family → Node → List ℤ → Type 0
InFamily family node values = IsSomeAnd (atoms_at family node) (All (λ atom. AtomHolds atom values))
