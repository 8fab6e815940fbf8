-- Nodes: when two are one, and their order.
use Rattle.std.specs.Prelude.{◌≡◌, ◌↔◌, ◌⊎◌, Bool, true, ◌&&◌}
use Rattle.c_ast.specs.declared.place.Place.{Place}
use Rattle.c_ast.specs.declared.place.Place.TheVariants as place
use Rattle.c_ast.specs.Place.{is_same_place, ComesBefore}
use Rattle.horn_clauses.specs.declared.node.Node.{Node}

-- The node of these places of side A and side B.
abbrev pub node : Place → Place → Node
node first second = record { 0 = first; 1 = second }

-- The node of the two entries.
abbrev pub entries : Node
entries = node place.Entry place.Entry

-- The node of the two exits.
abbrev pub exits : Node
exits = node place.Exit place.Exit

-- Whether the two nodes are one.
abbrev pub is_same_node : Node → Node → Bool
is_same_node m n = is_same_place m.0 n.0 && is_same_place m.1 n.1

-- Nodes are ordered by side A's place, then by side B's.
abbrev pub StandsBefore : Node → Node → Type 0
StandsBefore m n = ComesBefore m.0 n.0 ⊎ ((m.0 ≡ n.0) × ComesBefore m.1 n.1)

-- The test says exactly when two nodes are one.
abbrev pub LawOfNodes : Type 0
LawOfNodes = (m n : Node) → (is_same_node m n ≡ true) ↔ (m ≡ n)
