-- Cutting: what a family is without the marked atoms at a node.
use Rattle.std.specs.Prelude.{Bool, if◌then◌else◌, List, [], ◌∷◌}
use Rattle.horn_clauses.specs.declared.atom.Atom.{Atom}
use Rattle.horn_clauses.specs.declared.family.Family.{Family}
use Rattle.horn_clauses.specs.declared.node.Node.{Node}
use Rattle.horn_clauses.specs.Node.{is_same_node}

-- The atoms beside a mark that is false; there is a mark for each.
abbrev pub unmarked : List Atom → List Bool → List Atom
unmarked [] marks = []
unmarked (atom ∷ atoms) [] = []
unmarked (atom ∷ atoms) (mark ∷ marks) = if mark then unmarked atoms marks else atom ∷ unmarked atoms marks

-- The entry of a node without its marked atoms.
abbrev pub cut_entry : Node × List Atom → List Bool → Node × List Atom
cut_entry entry marks = (entry.0, unmarked entry.1 marks)

-- The entries, the first one for the node without its marked atoms.
abbrev pub cut_among : List (Node × List Atom) → Node → List Bool → List (Node × List Atom)
cut_among [] node marks = []
cut_among (entry ∷ entries) node marks =
    if is_same_node entry.0 node then cut_entry entry marks ∷ entries else entry ∷ cut_among entries node marks

-- The family without the marked atoms at the node.
abbrev pub cut : Family → Node → List Bool → Family
cut family node marks = record { nodes = cut_among family.nodes node marks }
