-- What is said at nodes of two functions, and kept by their moves.
use Rattle.std.specs.Prelude.{◌≡◌, ◌≢◌, ℕ, Bool, true, List, [], ◌∷◌, length, ℤ}
use Rattle.c_ast.specs.declared.place.Place.{Place}
use Rattle.c_ast.specs.Tree.{Expression, Program}
use Rattle.c_ast.specs.Formed.{IsProgram}
use Rattle.c_ast.specs.Condition.{Meets}
use Rattle.c_ast.specs.Returns.{NeverDiffer}
use Rattle.c_ast.specs.Segment.{FitsPlace, IsSegment}
use Rattle.alignment.specs.Number.{IsAlignment}
use Rattle.alignment.specs.Moves.{Moves}
use Rattle.horn_clauses.specs.declared.node.Node.{Node}
use Rattle.horn_clauses.specs.Node.{node, entries, exits}

-- What is said at nodes, of the values of side A and of side B there, is kept: from each node but the two exits, and
-- from all values of which it is said there, it is said of whatever both sides' moves end with.
abbrev pub AreKept : Program → Program → ℕ → (Node → List ℤ → List ℤ → Type 0) → Type 0
AreKept f g alignment Said =
    (l r l' r' : Place) (d e d' e' : List ℤ) → node l r ≢ exits → FitsPlace f l d → FitsPlace g r e
    → Said (node l r) d e → Moves (IsSegment f) (IsSegment g) alignment l r d e l' r' d' e' → Said (node l' r') d' e'

-- It is said at the entries of all inputs that meet the condition, is kept, and forces equal results at the exits.
pub record IsInvariant (f g : Program) (condition : Expression) (alignment : ℕ)
    (Said : Node → List ℤ → List ℤ → Type 0) : Type 0 where
  pub begins : (inputs : List ℤ) → length inputs ≡ f.params → Meets condition inputs → Said entries inputs inputs
  pub kept : AreKept f g alignment Said
  pub forces : (v w : ℤ) → Said exits (v ∷ []) (w ∷ []) → v ≡ w

-- Where it is an invariant of two functions with as many parameters, no inputs that meet the condition make the two
-- return differently.
abbrev pub InvariantsForce : (Node → List ℤ → List ℤ → Type 0) → Type 0
InvariantsForce Said =
    (f g : Program) (condition : Expression) (alignment : ℕ)
    → IsProgram f → IsProgram g → f.params ≡ g.params
    → IsAlignment alignment → IsInvariant f g condition alignment Said → NeverDiffer f g condition

-- This holds of whatever is said; a contract speaks of what a test tells.
abbrev pub LawOfInvariants : Type 0
LawOfInvariants = (said : Node → List ℤ → List ℤ → Bool) → InvariantsForce (λ n d e. said n d e ≡ true)
