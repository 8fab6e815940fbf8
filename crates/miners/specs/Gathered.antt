-- What is gathered of pairs of traces, one after the other: the atoms that are left at each node that their walks met.
use Rattle.std.specs.Prelude.{ℕ, Bool, false, ◌||◌, if◌then◌else◌, List, [], ◌∷◌, ◌++◌, map, fold, ℤ}
use Rattle.c_ast.specs.declared.trace.Pair.{Pair}
use Rattle.c_ast.specs.Comparison.{Comparison}
use Rattle.horn_clauses.specs.declared.atom.Atom.{Atom}
use Rattle.horn_clauses.specs.declared.node.Node.{Node}
use Rattle.horn_clauses.specs.declared.family.Family.{Family}
use Rattle.horn_clauses.specs.Node.{is_same_node, entries}
use Rattle.horn_clauses.specs.Equalities.{equal_parameters}
use Rattle.walks.specs.declared.spot.Spot.{Spot}
use Rattle.walks.specs.Walk.{walk_of}
use Rattle.miners.specs.Candidates.{constants_for, AreMinedFrom}
use Rattle.miners.specs.Mined.{struck}
use Rattle.miners.specs.Kept.{first_atoms}

-- ---- one spot after another

-- The values of side A and then of side B.
abbrev pub point_of : Spot → List ℤ
point_of spot = spot.first ++ spot.second

-- Whether the node is among these.
abbrev pub is_among : List (Node × List Atom) → Node → Bool
is_among [] node = false
is_among (entry ∷ nodes) node = is_same_node entry.0 node || is_among nodes node

-- The nodes with that of the spot, where it is new: what its first point leaves. The entries are not mined.
abbrev pub with_node : List ℤ → List (Node × List Atom) → Spot → List (Node × List Atom)
with_node constants nodes spot =
    if is_same_node entries spot.node || is_among nodes spot.node then nodes
    else nodes ++ (spot.node, first_atoms constants (point_of spot)) ∷ []

-- What the spot leaves at a node.
abbrev pub struck_entry : Spot → Node × List Atom → Node × List Atom
struck_entry spot entry =
    (entry.0, if is_same_node entry.0 spot.node then struck entry.1 (point_of spot) else entry.1)

-- What it leaves at all of them.
abbrev pub struck_nodes : List (Node × List Atom) → Spot → List (Node × List Atom)
struck_nodes nodes spot = map (struck_entry spot) nodes

-- What the spots of a walk leave: its new nodes are put in first.
abbrev pub with_spots : List ℤ → List Spot → List (Node × List Atom) → List (Node × List Atom)
with_spots constants spots nodes = fold struck_nodes (fold (with_node constants) nodes spots) spots

-- ---- one pair after another

-- What is gathered under an alignment: for how many parameters, with which constants of bounds, at which nodes.
pub record Gathered : Type 0 where
  pub constants : List ℤ
  pub params : ℕ
  pub alignment : ℕ
  pub nodes : List (Node × List Atom)

-- This is gathered.
abbrev pub gathered : List ℤ → ℕ → ℕ → List (Node × List Atom) → Gathered
gathered constants params alignment nodes =
    record { constants = constants; params = params; alignment = alignment; nodes = nodes }

-- Nothing yet.
abbrev pub nothing_gathered : Comparison → ℕ → Gathered
nothing_gathered subject alignment = gathered (constants_for subject) subject.first.params alignment []

-- What is gathered with one more pair.
abbrev pub with_pair : Gathered → Pair → Gathered
with_pair had pair =
    gathered had.constants had.params had.alignment
    (with_spots had.constants (walk_of had.alignment pair) had.nodes)

-- The candidates: at the entries that each parameter is equal on both sides, and elsewhere what is gathered.
abbrev pub family_of : Gathered → Family
family_of had = record { nodes = (entries, equal_parameters had.params) ∷ had.nodes }

-- The candidates of these pairs.
abbrev pub mined_family : Comparison → ℕ → List Pair → Family
mined_family subject alignment pairs = family_of (fold with_pair (nothing_gathered subject alignment) pairs)

-- The candidates that are gathered pair by pair are those that are mined of all pairs.
abbrev pub GatheredIsMined : Type 0
GatheredIsMined = (subject : Comparison) (alignment : ℕ) (pairs : List Pair)
    → AreMinedFrom subject alignment pairs (mined_family subject alignment pairs)
