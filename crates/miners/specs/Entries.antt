-- What the accumulators of nodes say: the nodes, with the atoms that are left.
use Rattle.std.specs.Prelude.{ℕ, Bool, ◌||◌, List, ◌++◌, map, ℤ}
use Rattle.horn_clauses.specs.declared.atom.Atom.{Atom}
use Rattle.horn_clauses.specs.declared.node.Node.{Node}
use Rattle.miners.specs.Kept.{Held, atoms_left}
use Rattle.horn_clauses.specs.Node.{is_same_node, entries}
use Rattle.miners.specs.Gathered.{Gathered, gathered, is_among}

-- The node with the atoms that are left there.
abbrev pub entry_of : List ℤ → Held → Node × List Atom
entry_of constants held = (held.node, atoms_left constants held)

-- All nodes with theirs.
abbrev pub entries_of : List ℤ → List Held → List (Node × List Atom)
entries_of constants nodes = map (entry_of constants) nodes

-- What these gather.
abbrev pub gathered_of : List ℤ → ℕ → ℕ → List Held → Gathered
gathered_of constants params alignment nodes = gathered constants params alignment (entries_of constants nodes)

-- Whether the node is that of the entries, or among the nodes of these.
abbrev pub is_had : List ℤ → List Held → List Held → Node → Bool
is_had constants met made node =
    is_same_node entries node || is_among (entries_of constants met ++ entries_of constants made) node
