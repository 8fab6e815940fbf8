-- Candidates: what is mined at a node of the values with which the walks of pairs of traces meet it.
use Rattle.std.specs.Prelude.{◌≡◌, ℕ, nat_le, if◌then◌else◌, List, [], ◌∷◌, ◌++◌, length, flat_map, Option, Some, None, ℤ}
use Rattle.c_ast.specs.declared.trace.Pair.{Pair}
use Rattle.c_ast.specs.Comparison.{Comparison}
use Rattle.c_ast.specs.Function.{program_of}
use Rattle.horn_clauses.specs.declared.atom.Atom.{Atom}
use Rattle.horn_clauses.specs.declared.node.Node.{Node}
use Rattle.horn_clauses.specs.declared.family.Family.{Family}
use Rattle.horn_clauses.specs.Node.{is_same_node, entries}
use Rattle.horn_clauses.specs.Family.{atoms_at}
use Rattle.horn_clauses.specs.Equalities.{equal_parameters}
use Rattle.walks.specs.declared.spot.Spot.{Spot}
use Rattle.walks.specs.Walk.{walk_of}
use Rattle.miners.specs.Constants.{bound_constants}
use Rattle.miners.specs.Mined.{mined}

-- The values with which these spots meet the node, side A's and then side B's.
abbrev pub points_among : Node → List Spot → List (List ℤ)
points_among node [] = []
points_among node (s ∷ spots) =
    if is_same_node s.node node then (s.first ++ s.second) ∷ points_among node spots else points_among node spots

-- Those of the walks of all pairs.
abbrev pub points_at : ℕ → Node → List Pair → List (List ℤ)
points_at alignment node pairs = flat_map (λ pair. points_among node (walk_of alignment pair)) pairs

-- What is mined at a node of these points: of more than 16 values nothing is, and a node without a point is not met.
abbrev pub mined_of : List ℤ → List (List ℤ) → Option (List Atom)
mined_of constants [] = None
mined_of constants (point ∷ points) = Some (if nat_le (length point) 16 then mined constants point points else [])

-- The candidates at a node that these pairs meet, with these constants of bounds: at the entries that each parameter is
-- equal on both sides, and elsewhere what is mined. A node that is not met has none: `false` holds there.
abbrev pub candidates_at : ℕ → List ℤ → ℕ → List Pair → Node → Option (List Atom)
candidates_at alignment constants params pairs node =
    if is_same_node node entries then Some (equal_parameters params)
    else mined_of constants (points_at alignment node pairs)

-- The constants of bounds for two functions that are compared.
abbrev pub constants_for : Comparison → List ℤ
constants_for subject = bound_constants (program_of subject.first) (program_of subject.second)

-- The family has at each node the candidates of these pairs.
abbrev pub AreMinedFrom : Comparison → ℕ → List Pair → Family → Type 0
AreMinedFrom subject alignment pairs family = (node : Node)
    → atoms_at family node ≡ candidates_at alignment (constants_for subject) subject.first.params pairs node
