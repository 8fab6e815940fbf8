-- Laws of walks: from where to where they lead, by which moves, and how many values there are, of which size.
use Rattle.std.specs.Prelude.{◌≡◌, ◌≢◌, ℕ, ◌+◌, ◌≤◌, List, [], ◌∷◌, length, All, ℤ}
use Rattle.c_ast.specs.declared.trace.Event.{Event}
use Rattle.c_ast.specs.declared.trace.Trace.{Trace}
use Rattle.c_ast.specs.declared.trace.Pair.{Pair}
use Rattle.c_ast.specs.Tree.{Program}
use Rattle.c_ast.specs.Trace.{IsTrace}
use Rattle.c_ast.specs.Segment.{FitsPlace, IsSegment}
use Rattle.c_ast.specs.Formed.{IsProgram}
use Rattle.c_ast.specs.FitsRun.{FitsRun}
use Rattle.c_ast.specs.Laws.{FitsEvent}
use Rattle.alignment.specs.Number.{IsAlignment}
use Rattle.alignment.specs.Moves.{Moves}
use Rattle.horn_clauses.specs.Node.{entries, exits}
use Rattle.walks.specs.declared.position.Position.{Position}
use Rattle.walks.specs.declared.spot.Spot.{Spot}
use Rattle.walks.specs.Walk.{spot, spot_at, walk_of}

-- ---- from the entries to the exits

-- From the spot, by way of those of the list, steps lead to the exits with these results. Only the last spot is at the
-- exits.
abbrev pub LeadsOn : (Spot → Spot → Type 0) → ℤ → ℤ → Spot → List Spot → Type 0
LeadsOn Step v w s [] = s ≡ spot exits (v ∷ []) (w ∷ [])
LeadsOn Step v w s (t ∷ spots) = (s.node ≢ exits) × Step s t × LeadsOn Step v w t spots

-- The spots lead from the entries, with the input on both sides, to the exits with the results.
abbrev pub IsWalk : (Spot → Spot → Type 0) → List ℤ → ℤ → ℤ → List Spot → Type 0
IsWalk Step input v w [] = ⊥
IsWalk Step input v w (s ∷ spots) = (s ≡ spot entries input input) × LeadsOn Step v w s spots

-- From one spot to the next, whatever they are.
abbrev pub AnyStep : Spot → Spot → Type 0
AnyStep s t = Unit {0}

-- The walk of every pair, also of what no function ran, leads from the entries to the exits, with the pair's results.
abbrev pub WalksEndAtExits : Type 0
WalksEndAtExits = (alignment : ℕ) (pair : Pair) → IsAlignment alignment
    → IsWalk AnyStep pair.input pair.first.result pair.second.result (walk_of alignment pair)

-- A walk has at most two spots more than marks are passed.
abbrev pub WalksAreShort : Type 0
WalksAreShort = (alignment : ℕ) (pair : Pair) → IsAlignment alignment
    → length (walk_of alignment pair) ≤ length pair.first.events + length pair.second.events + 2

-- ---- the moves of two functions

-- Two functions with as many parameters, and their traces on one input.
pub record HaveTraces (f g : Program) (pair : Pair) : Type 0 where
  pub first_formed : IsProgram f
  pub second_formed : IsProgram g
  pub first_arity : length pair.input ≡ f.params
  pub second_arity : length pair.input ≡ g.params
  pub first : IsTrace f pair.input pair.first
  pub second : IsTrace g pair.input pair.second

-- The values of the spot are as many as variables are in scope at its places.
pub record FitsSpot (f g : Program) (s : Spot) : Type 0 where
  pub first : FitsPlace f s.node.0 s.first
  pub second : FitsPlace g s.node.1 s.second

-- The moves of both functions from the first spot end at the second.
pub record MovesTo (f g : Program) (alignment : ℕ) (s t : Spot) : Type 0 where
  pub fits : FitsSpot f g s
  pub moves : Moves (IsSegment f) (IsSegment g) alignment s.node.0 s.node.1 s.first s.second
      t.node.0 t.node.1 t.first t.second

-- The walk of two functions' traces leads from the entries to the exits by moves of both functions.
abbrev pub WalksFollowMoves : Type 0
WalksFollowMoves = (f g : Program) (alignment : ℕ) (pair : Pair) → IsAlignment alignment → HaveTraces f g pair
    → IsWalk (MovesTo f g alignment) pair.input pair.first.result pair.second.result (walk_of alignment pair)

-- ---- how many values there are, and of which size

-- The input has a value for each parameter of both functions, and each event is at a mark of its side's function, with
-- as many values as variables are in scope there.
pub record FitsFunctions (f g : Program) (pair : Pair) : Type 0 where
  pub first_arity : length pair.input ≡ f.params
  pub second_arity : length pair.input ≡ g.params
  pub first : All (FitsEvent f) pair.first.events
  pub second : All (FitsEvent g) pair.second.events

-- Where a pair fits two functions, so do the values at every position.
abbrev pub PositionsFit : Type 0
PositionsFit = (f g : Program) (pair : Pair) → FitsFunctions f g pair → (at : Position) → FitsSpot f g (spot_at pair at)

-- Where a pair fits two functions, so does each spot of its walk.
abbrev pub ValuesFit : Type 0
ValuesFit = (f g : Program) (alignment : ℕ) (pair : Pair) → FitsFunctions f g pair
    → All (FitsSpot f g) (walk_of alignment pair)

-- A pair of two functions' traces fits them.
abbrev pub TracesFit : Type 0
TracesFit = (f g : Program) (pair : Pair) → HaveTraces f g pair → FitsFunctions f g pair

-- The event's values are below 2^100 in size.
abbrev pub IsNarrowEvent : Event → Type 0
IsNarrowEvent event = All FitsRun event.values

-- The trace's values and its result are below 2^100 in size.
pub record IsNarrowTrace (trace : Trace) : Type 0 where
  pub events : All IsNarrowEvent trace.events
  pub result : FitsRun trace.result

-- All values of the pair are below 2^100 in size.
pub record IsNarrowPair (pair : Pair) : Type 0 where
  pub input : All FitsRun pair.input
  pub first : IsNarrowTrace pair.first
  pub second : IsNarrowTrace pair.second

-- The spot's values are below 2^100 in size.
pub record IsNarrowSpot (s : Spot) : Type 0 where
  pub first : All FitsRun s.first
  pub second : All FitsRun s.second

-- Where the values of a pair are below 2^100 in size, so are those at every position.
abbrev pub PositionsAreNarrow : Type 0
PositionsAreNarrow = (pair : Pair) → IsNarrowPair pair → (at : Position) → IsNarrowSpot (spot_at pair at)

-- Where the values of a pair are below 2^100 in size, so are those of each spot of its walk.
abbrev pub ValuesStayNarrow : Type 0
ValuesStayNarrow = (alignment : ℕ) (pair : Pair) → IsNarrowPair pair
    → All IsNarrowSpot (walk_of alignment pair)
