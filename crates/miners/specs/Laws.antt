-- Laws of mining, of candidates and of constants.
use Rattle.std.specs.Prelude.{◌≡◌, ◌≢◌, ◌↔◌, ◌⊎◌, ℕ, ◌+◌, ◌<◌, ◌≤◌, List, [], ◌∷◌, ◌++◌, length, fold, Some, None, IsSomeAnd, ℤ, negsuc, ◌≤ℤ◌, ◌<ℤ◌, true, All, Contains}
use Rattle.c_ast.specs.declared.trace.Pair.{Pair}
use Rattle.c_ast.specs.Tree.{Program}
use Rattle.c_ast.specs.Formed.{IsProgram}
use Rattle.lin_terms.specs.Bounds.{FitsForm}
use Rattle.horn_clauses.specs.declared.atom.Atom.{Atom}
use Rattle.horn_clauses.specs.declared.node.Node.{Node}
use Rattle.horn_clauses.specs.Node.{entries}
use Rattle.horn_clauses.specs.Atom.{AtomHolds}
use Rattle.horn_clauses.specs.Equalities.{equal_parameters}
use Rattle.horn_clauses.specs.Obligations.{FitsNode}
use Rattle.walks.specs.Laws.{FitsFunctions}
use Rattle.miners.specs.Constants.{is_further, ten_least, bound_constants}
use Rattle.miners.specs.Template.{IsTemplateAtom, AtomStandsBefore, AreInOrder, AreRising}
use Rattle.miners.specs.Mined.{struck, mined}
use Rattle.miners.specs.Candidates.{points_at, candidates_at}

-- ---- mining

-- The atom is one of the template over as many values as the first point has, and holds at all points.
abbrev pub IsCandidate : List ℤ → List ℤ → List (List ℤ) → Atom → Type 0
IsCandidate constants point points atom =
    IsTemplateAtom (length point) constants atom × All (AtomHolds atom) (point ∷ points)

-- The atoms are those candidates, each once, and in order.
pub record AreTheCandidates (constants point : List ℤ) (points : List (List ℤ)) (atoms : List Atom) : Type 0 where
  pub exact : (atom : Atom) → Contains atoms atom ↔ IsCandidate constants point points atom
  pub order : AreInOrder atoms

-- What is mined are exactly the candidates.
abbrev pub MinesCandidates : Type 0
MinesCandidates = (constants point : List ℤ) (points : List (List ℤ)) → AreRising constants
    → AreTheCandidates constants point points (mined constants point points)

-- There is one list of them.
abbrev pub OneListOfCandidates : Type 0
OneListOfCandidates = (constants point : List ℤ) (points : List (List ℤ)) (atoms others : List Atom)
    → AreTheCandidates constants point points atoms → AreTheCandidates constants point points others → atoms ≡ others

-- More points strike what is mined of fewer.
abbrev pub MiningGoesOn : Type 0
MiningGoesOn = (constants point : List ℤ) (points more : List (List ℤ))
    → mined constants point (points ++ more) ≡ fold struck (mined constants point points) more

-- A point that was had strikes nothing.
abbrev pub HadPointsStrikeNothing : Type 0
HadPointsStrikeNothing = (constants point : List ℤ) (points : List (List ℤ)) (had : List ℤ)
    → Contains (point ∷ points) had
    → struck (mined constants point points) had ≡ mined constants point points

-- ---- candidates

-- All points of these pairs at the node have so many values.
abbrev pub HaveWidth : ℕ → ℕ → Node → List Pair → Type 0
HaveWidth width alignment node pairs = All (λ point. length point ≡ width) (points_at alignment node pairs)

-- Each of the first pairs is one of the second.
abbrev pub ArePart : List Pair → List Pair → Type 0
ArePart pairs more = All (Contains more) pairs

-- At a node other than the entries that is met with at most 16 values, the candidates are exactly the atoms of the
-- template that hold at all points of the walks, each once, and in order.
abbrev pub CandidatesAreMined : Type 0
CandidatesAreMined = (alignment : ℕ) (constants : List ℤ) (params : ℕ) (pairs : List Pair) (node : Node)
    (point : List ℤ) (points : List (List ℤ)) → AreRising constants → node ≢ entries
    → points_at alignment node pairs ≡ point ∷ points → length point ≤ 16
    → IsSomeAnd (candidates_at alignment constants params pairs node) (AreTheCandidates constants point points)

-- So an atom of the template that holds at all points of the walks is among them.
abbrev pub HoldingAtomsAreCandidates : Type 0
HoldingAtomsAreCandidates = (alignment : ℕ) (constants : List ℤ) (params : ℕ) (pairs : List Pair) (node : Node)
    (point : List ℤ) (points : List (List ℤ)) (atom : Atom) → node ≢ entries
    → points_at alignment node pairs ≡ point ∷ points → length point ≤ 16 → IsCandidate constants point points atom
    → IsSomeAnd (candidates_at alignment constants params pairs node) (λ atoms. Contains atoms atom)

-- A node has no candidates exactly where it is not the entries and no walk meets it.
abbrev pub UnmetNodesHaveNone : Type 0
UnmetNodesHaveNone = (alignment : ℕ) (constants : List ℤ) (params : ℕ) (pairs : List Pair) (node : Node)
    → (candidates_at alignment constants params pairs node ≡ None)
    ↔ ((node ≢ entries) × (points_at alignment node pairs ≡ []))

-- At each node the candidates stand in their order, each once.
abbrev pub CandidatesAreInOrder : Type 0
CandidatesAreInOrder = (alignment : ℕ) (constants : List ℤ) (params : ℕ) (pairs : List Pair) (node : Node)
    (atoms : List Atom) → AreRising constants → candidates_at alignment constants params pairs node ≡ Some atoms
    → AreInOrder atoms

-- A node that is met with more than 16 values has the empty list.
abbrev pub WideNodesSayNothing : Type 0
WideNodesSayNothing = (alignment : ℕ) (constants : List ℤ) (params : ℕ) (pairs : List Pair) (node : Node)
    (point : List ℤ) (points : List (List ℤ)) → node ≢ entries
    → points_at alignment node pairs ≡ point ∷ points → 16 < length point
    → candidates_at alignment constants params pairs node ≡ Some []

-- At a node that these pairs meet, the candidates of more pairs are those that hold at all their points.
abbrev pub MorePairsAddNone : Type 0
MorePairsAddNone = (alignment : ℕ) (constants : List ℤ) (params : ℕ) (pairs more : List Pair) (node : Node)
    (width : ℕ) (atoms : List Atom) → node ≢ entries → ArePart pairs more → HaveWidth width alignment node more
    → candidates_at alignment constants params pairs node ≡ Some atoms
    → IsSomeAnd (candidates_at alignment constants params more node) (λ left. (atom : Atom)
    → Contains left atom ↔ (Contains atoms atom × All (AtomHolds atom) (points_at alignment node more)))

-- The order of the pairs, and how often each is given, make no difference.
abbrev pub CandidatesAreDetermined : Type 0
CandidatesAreDetermined = (alignment : ℕ) (constants : List ℤ) (params : ℕ) (pairs others : List Pair) (node : Node)
    (width : ℕ) → AreRising constants → ArePart pairs others → ArePart others pairs
    → HaveWidth width alignment node others
    → candidates_at alignment constants params pairs node ≡ candidates_at alignment constants params others node

-- Where the pairs fit two well-formed functions, two points at a node have as many values.
abbrev pub PointsHaveOneLength : Type 0
PointsHaveOneLength = (f g : Program) (alignment : ℕ) (pairs : List Pair) (node : Node) (point other : List ℤ)
    → IsProgram f → IsProgram g → All (FitsFunctions f g) pairs
    → Contains (points_at alignment node pairs) point → Contains (points_at alignment node pairs) other
    → length point ≡ length other

-- A candidate at a node other than the entries fits as many values as the points there have.
abbrev pub CandidatesFit : Type 0
CandidatesFit = (alignment : ℕ) (f g : Program) (params : ℕ) (pairs : List Pair) (node : Node) (width : ℕ)
    (atoms : List Atom) → node ≢ entries → HaveWidth width alignment node pairs
    → candidates_at alignment (bound_constants f g) params pairs node ≡ Some atoms → All (FitsNode width) atoms

-- At the entries they fit the parameters of both sides.
abbrev pub EntriesFit : Type 0
EntriesFit = (params : ℕ) → All (FitsNode (params + params)) (equal_parameters params)

-- ---- their order

-- Of two atoms at most one stands before the other.
abbrev pub OrderGoesOneWay : Type 0
OrderGoesOneWay = (first second : Atom) → AtomStandsBefore first second → AtomStandsBefore second first → ⊥

-- ---- constants

-- The constants are at least -1, below 2^50 in size, rising, and at most 13.
pub record AreBoundConstants (constants : List ℤ) : Type 0 where
  pub least : All (λ constant. negsuc 0 ≤ℤ constant) constants
  pub fit : All FitsForm constants
  pub rising : AreRising constants
  pub few : length constants ≤ 13

-- So are those of any two functions.
abbrev pub LawOfBoundConstants : Type 0
LawOfBoundConstants = (f g : Program) → AreBoundConstants (bound_constants f g)

-- Those that are kept of some constants are of them, above 1 and below 2^50. One that is not kept has ten lesser ones.
pub record AreTheTenLeast (constants kept : List ℤ) : Type 0 where
  pub are : All (λ constant. Contains constants constant × (is_further constant ≡ true)) kept
  pub all : (constant : ℤ) → Contains constants constant → is_further constant ≡ true
      → Contains kept constant ⊎ ((length kept ≡ 10) × All (λ other. other <ℤ constant) kept)

-- The ten least are those.
abbrev pub LawOfTenLeast : Type 0
LawOfTenLeast = (constants : List ℤ) → AreTheTenLeast constants (ten_least constants)
