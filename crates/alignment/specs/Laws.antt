-- Laws of alignments: some side moves, and moves depend on the segments alone.
use Rattle.std.specs.Prelude.{◌≡◌, ◌⊎◌, ◌↔◌, ℕ, suc, ◌<◌, List, ℤ}
use Rattle.c_ast.specs.declared.place.Place.{Place}
use Rattle.c_ast.specs.declared.place.Place.TheVariants as place
use Rattle.c_ast.specs.Tree.{Program}
use Rattle.c_ast.specs.Segment.{IsSegment}
use Rattle.c_ast.specs.Formed.{IsProgram}
use Rattle.alignment.specs.Number.{IsAlignment}
use Rattle.alignment.specs.Counts.{counts_of, counts_at}
use Rattle.alignment.specs.Moves.{Takes, Moves}

-- At one mark both sides take a segment at least.
abbrev pub SomeAtMarks : Type 0
SomeAtMarks = (alignment : ℕ) → IsAlignment alignment → (0 < (counts_of alignment).2) × (0 < (counts_of alignment).3)

-- The side has a segment to take, and is not at the exit.
abbrev pub IsMoving : ℕ → Place → Type 0
IsMoving count l = (0 < count) × ¬ (l ≡ place.Exit)

-- At each node but that of the two exits some side moves.
abbrev pub SomeSideMoves : Type 0
SomeSideMoves = (alignment : ℕ) (l r : Place) → IsAlignment alignment → ¬ ((l ≡ place.Exit) × (r ≡ place.Exit))
    → IsMoving (counts_at (counts_of alignment) l r).0 l ⊎ IsMoving (counts_at (counts_of alignment) l r).1 r

-- A segment from a mark to another place is the last one that a side takes, however many it may take.
abbrev pub StopsElsewhere : Type 0
StopsElsewhere =
    (f : Program) → IsProgram f → (n k : ℕ) (e : List ℤ) (next : Place) (values : List ℤ) (l' : Place) (e' : List ℤ)
    → IsSegment f (place.Mark k) e next values → ¬ (next ≡ place.Mark k)
    → Takes (IsSegment f) (suc n) (place.Mark k) e l' e' ↔ ((l' ≡ next) × (e' ≡ values))

-- After a segment from a mark to that mark a side goes on, where it may take more.
abbrev pub GoesOnAtItsMark : Type 0
GoesOnAtItsMark = (f : Program) → IsProgram f → (n k : ℕ) (e values : List ℤ) (l' : Place) (e' : List ℤ)
    → IsSegment f (place.Mark k) e (place.Mark k) values
    → Takes (IsSegment f) (suc n) (place.Mark k) e l' e' ↔ Takes (IsSegment f) n (place.Mark k) values l' e'

-- The two functions have the same segments.
abbrev pub HaveSameSegments : Program → Program → Type 0
HaveSameSegments f g =
    (l : Place) (e : List ℤ) (l' : Place) (e' : List ℤ) → IsSegment f l e l' e' ↔ IsSegment g l e l' e'

-- Where each side's function has the same segments as another, the moves of the two are those of the others.
abbrev pub SameMoves : Type 0
SameMoves = (f g other_f other_g : Program) → HaveSameSegments f other_f → HaveSameSegments g other_g
    → (alignment : ℕ) (l r : Place) (d e : List ℤ) (l' r' : Place) (d' e' : List ℤ)
    → Moves (IsSegment f) (IsSegment g) alignment l r d e l' r' d' e'
    ↔ Moves (IsSegment other_f) (IsSegment other_g) alignment l r d e l' r' d' e'

-- From a node, with any values, moves end at one node at most, with one list of values on each side.
abbrev pub MovesAreDetermined : Type 0
MovesAreDetermined = (f g : Program) → IsProgram f → IsProgram g
    → (alignment : ℕ) (l r : Place) (d e : List ℤ) (l' r' : Place) (d' e' : List ℤ) (m n : Place) (u v : List ℤ)
    → Moves (IsSegment f) (IsSegment g) alignment l r d e l' r' d' e'
    → Moves (IsSegment f) (IsSegment g) alignment l r d e m n u v
    → (l' ≡ m) × (r' ≡ n) × (d' ≡ u) × (e' ≡ v)

-- Moves never end at the node of the two entries.
abbrev pub EntriesAreNotMet : Type 0
EntriesAreNotMet = (f g : Program) (alignment : ℕ) (l r : Place) (d e : List ℤ) (l' r' : Place) (d' e' : List ℤ)
    → Moves (IsSegment f) (IsSegment g) alignment l r d e l' r' d' e' → ¬ ((l' ≡ place.Entry) × (r' ≡ place.Entry))
