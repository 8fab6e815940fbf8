-- Atoms: where they hold, and of which values they can be judged.
use Rattle.std.specs.Prelude.{◌≡◌, ◌≤◌, ◌≤ℤ◌, ℤ, List, length, All, unsigned_abs}
use Rattle.c_ast.specs.FitsRun.{FitsRun}
use Rattle.lin_terms.specs.Bounds.{FitsForm}
use Rattle.lin_terms.specs.Vectors.{dot}
use Rattle.horn_clauses.specs.declared.atom.Rel.{Rel}
use Rattle.horn_clauses.specs.declared.atom.Rel.TheVariants.{Eq, AtLeast}
use Rattle.horn_clauses.specs.declared.atom.Atom.{Atom}
use Rattle.horn_clauses.specs.declared.atom.Atom.TheVariants.{False, Linear}

-- The sum stands so to the constant.
abbrev pub Stands : Rel → ℤ → ℤ → Type 0
Stands Eq sum constant = sum ≡ constant
Stands AtLeast sum constant = constant ≤ℤ sum

-- The atom holds of the values.
abbrev pub AtomHolds : Atom → List ℤ → Type 0
AtomHolds False values = ⊥
AtomHolds (Linear coefs constant rel) values = Stands rel (dot coefs values) constant

-- The sum of these values, each times its coefficient, stays far within 128 bits.
pub record CanAdd (coefs values : List ℤ) : Type 0 where
  pub lengths : length values ≡ length coefs
  pub few : length coefs ≤ 128
  pub fit : All FitsRun values
  pub small : All (λ coef. unsigned_abs coef ≤ 2) coefs

-- The atom can be judged of the values.
abbrev pub CanJudge : Atom → List ℤ → Type 0
CanJudge False values = Unit {0}
CanJudge (Linear coefs constant rel) values = CanAdd coefs values × FitsForm constant
