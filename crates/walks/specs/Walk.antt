-- The walk of two traces under an alignment: its positions, and the nodes and values there.
use Rattle.std.specs.Prelude.{ℕ, zero, suc, ◌+◌, Bool, ◌&&◌, if◌then◌else◌, List, [], ◌∷◌, length, map, ℤ}
use Rattle.c_ast.specs.declared.trace.Pair.{Pair}
use Rattle.alignment.specs.Counts.{counts_of, counts_at}
use Rattle.horn_clauses.specs.declared.node.Node.{Node}
use Rattle.horn_clauses.specs.Node.{node}
use Rattle.walks.specs.declared.position.Position.{Position}
use Rattle.walks.specs.declared.spot.Spot.{Spot}
use Rattle.walks.specs.Side.{place_at, values_at, is_exit, taken}

-- The position at which so many places of each trace lie behind.
abbrev pub position : ℕ → ℕ → Position
position i j = record { first = i; second = j }

-- The node at the position.
abbrev pub node_at : Pair → Position → Node
node_at pair at = node (place_at pair.first at.first) (place_at pair.second at.second)

-- Side A's values at the position.
abbrev pub first_values_at : Pair → Position → List ℤ
first_values_at pair at = values_at pair.input pair.first at.first

-- Side B's values at the position.
abbrev pub second_values_at : Pair → Position → List ℤ
second_values_at pair at = values_at pair.input pair.second at.second

-- A node with the values of side A and of side B there.
abbrev pub spot : Node → List ℤ → List ℤ → Spot
spot at first second = record { node = at; first = first; second = second }

-- The node at the position, with the values there.
abbrev pub spot_at : Pair → Position → Spot
spot_at pair at = spot (node_at pair at) (first_values_at pair at) (second_values_at pair at)

-- How many segments each side may take at the position.
abbrev pub counts_there : ℕ → Pair → Position → ℕ × ℕ
counts_there alignment pair at =
    counts_at (counts_of alignment) (place_at pair.first at.first) (place_at pair.second at.second)

-- The position after the moves of both sides.
abbrev pub next_position : ℕ → Pair → Position → Position
next_position alignment pair at =
    position (taken pair.first (counts_there alignment pair at).0 at.first)
    (taken pair.second (counts_there alignment pair at).1 at.second)

-- Whether both sides are at the exit.
abbrev pub is_at_exits : Pair → Position → Bool
is_at_exits pair at = is_exit pair.first at.first && is_exit pair.second at.second

-- The positions from this one on, up to the first at both exits, and at most n of them.
abbrev pub positions_from : ℕ → Pair → ℕ → Position → List Position
positions_from alignment pair zero at = []
positions_from alignment pair (suc n) at =
    at
    ∷ (if is_at_exits pair at then [] else positions_from alignment pair n (next_position alignment pair at))

-- The positions of the walk, from both entries on. Each move takes a segment of some side, so these are enough to reach
-- both exits.
abbrev pub positions_of : ℕ → Pair → List Position
positions_of alignment pair =
    positions_from alignment pair (length pair.first.events + length pair.second.events + 3) (position 0 0)

-- The walk: the nodes and values at its positions.
abbrev pub walk_of : ℕ → Pair → List Spot
walk_of alignment pair = map (spot_at pair) (positions_of alignment pair)
