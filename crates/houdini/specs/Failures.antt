-- The failures about the end of a clause, and what a point says of them.
use Rattle.std.specs.Prelude.{◌≡◌, ℕ, suc, Bool, true, false, List, [], ◌∷◌, ◌++◌, Contains, slice_index_or, ◌⊎◌}
use Rattle.lin_terms.specs.declared.point.Point.{Point}
use Rattle.lin_terms.specs.declared.row.Row.{Row}
use Rattle.horn_clauses.specs.declared.atom.Atom.{Atom}
use Rattle.horn_clauses.specs.declared.atom.Atom.TheVariants.{False, Linear}
use Rattle.horn_clauses.specs.declared.atom.Rel.TheVariants.{Eq, AtLeast}
use Rattle.horn_clauses.specs.declared.clause.Clause.{Clause}
use Rattle.horn_clauses.specs.declared.family.Family.{Family}
use Rattle.horn_clauses.specs.Obligations.{obligation_rows}
use Rattle.lin_prover.specs.Settles.{IsPointOf}
use Rattle.houdini.specs.declared.failure.Failure.{Failure}
use Rattle.houdini.specs.declared.failure.End.{End}
use Rattle.houdini.specs.Striking.{IsShown}

-- ---- the failures

-- The clause without its rows, from a node where nothing is said.
abbrev pub end_of : Clause → End
end_of clause = record {
  family = record { nodes = (clause.from, []) ∷ [] };
  clause = record { from = clause.from; rows = []; to = clause.to; after = clause.after };
}

-- The failure whether the atom with this number fails at the end; of an equality's two, the upper one where told.
abbrev pub failure_of : End → ℕ → Atom → Bool → Failure
failure_of end number atom upper =
    record { atom = number; rows = obligation_rows end.family end.clause atom upper }

-- Those about an atom: one for each of its obligations.
abbrev pub failures_of : End → ℕ → Atom → List Failure
failures_of end number False = failure_of end number False false ∷ []
failures_of end number (Linear coefs constant Eq) =
    failure_of end number (Linear coefs constant Eq) false ∷ failure_of end number (Linear coefs constant Eq) true ∷ []
failures_of end number (Linear coefs constant AtLeast) =
    failure_of end number (Linear coefs constant AtLeast) false ∷ []

-- Those about atoms, whose numbers count from this one on.
abbrev pub failures_from : End → ℕ → List Atom → List Failure
failures_from end number [] = []
failures_from end number (atom ∷ atoms) = failures_of end number atom ++ failures_from end (suc number) atoms

-- ---- what a point says

-- A point of the start's rows meets the rows of a failure about the atom with this number.
pub record IsHit (start : List Row) (failures : List Failure) (number : ℕ) : Type 0 where
  pub point : Point
  pub failure : Failure
  pub of_start : IsPointOf start point
  pub among : Contains failures failure
  pub about : failure.atom ≡ number
  pub of_failure : IsPointOf failure.rows point

-- Each mark stood before, or is at an atom that was hit.
abbrev pub Marks : List Row → List Failure → List Bool → List Bool → Type 0
Marks start failures before after = (number : ℕ) → slice_index_or after number false ≡ true
    → (slice_index_or before number false ≡ true) ⊎ IsHit start failures number

-- ---- what may be struck

-- Where it is marked, the atom is not shown to hold at the clause's end.
abbrev pub IsOpenIfMarked : Family → Clause → Atom → Bool → Type 0
IsOpenIfMarked family clause atom mark = mark ≡ true → ¬ IsShown family clause atom
