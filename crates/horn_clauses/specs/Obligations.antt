-- The obligations of a family: rows that say that its atoms hold at the start of a clause, that the clause is taken,
-- and that an atom fails at its end. Where no whole numbers meet them, the atom holds there.
use Rattle.std.specs.Prelude.{◌≡◌, ◌≤◌, ◌-◌, ◌<ℤ◌, ℕ, ℤ, pos, neg_ℤ, Bool, true, false, if◌then◌else◌, List, [], ◌∷◌, ◌++◌, length, map, replicate, Option, Some, None, IsSome, IsSomeAnd, All, Contains, unsigned_abs}
use Rattle.std.specs.List.{flat_map}
use Rattle.lin_terms.specs.declared.form.Form.{Form}
use Rattle.lin_terms.specs.declared.row.Row.{Row}
use Rattle.lin_terms.specs.declared.sign.Sign.{Sign}
use Rattle.lin_terms.specs.declared.sign.Sign.TheVariants.{Negative, Positive}
use Rattle.lin_terms.specs.Bounds.{FitsForm}
use Rattle.lin_terms.specs.Vectors.{dot}
use Rattle.lin_terms.specs.Form.{composed}
use Rattle.lin_terms.specs.Makes.{IsFittingForm}
use Rattle.lin_terms.specs.Row.{Holds, HasNoIntegerPoint}
use Rattle.lin_terms.specs.Sign.{sign_row}
use Rattle.lin_terms.specs.Tight.{never_row}
use Rattle.horn_clauses.specs.declared.atom.Rel.{Rel}
use Rattle.horn_clauses.specs.declared.atom.Rel.TheVariants.{Eq, AtLeast}
use Rattle.horn_clauses.specs.declared.atom.Atom.{Atom}
use Rattle.horn_clauses.specs.declared.atom.Atom.TheVariants.{False, Linear}
use Rattle.horn_clauses.specs.declared.clause.Clause.{Clause}
use Rattle.horn_clauses.specs.declared.clause.Product.{Product}
use Rattle.horn_clauses.specs.declared.family.Family.{Family}
use Rattle.horn_clauses.specs.declared.node.Node.{Node}
use Rattle.horn_clauses.specs.Atom.{AtomHolds}
use Rattle.horn_clauses.specs.Family.{atoms_at, InFamily}
use Rattle.horn_clauses.specs.Clause.{columns_in, FitsClause, LeadsWith, LeadsTo}

-- ---- the atoms at the start

-- Whether the sum is to be equal to the constant.
abbrev pub is_equality : Rel → Bool
is_equality Eq = true
is_equality AtLeast = false

-- The coefficients, and zeros behind them, up to so many columns.
abbrev pub padded : ℕ → List ℤ → List ℤ
padded columns coefs = coefs ++ replicate (columns - length coefs) (pos 0)

-- The row that says that the atom holds of what stands in the first of so many columns.
abbrev pub atom_row : ℕ → Atom → Row
atom_row columns False = never_row columns
atom_row columns (Linear coefs constant rel) =
    record { coefs = padded columns coefs; constant = neg_ℤ constant; equality = is_equality rel }

-- ---- the atom at the end

-- On which side of the constant the sum lies where the atom fails. An equality fails on both: the upper one is told.
abbrev pub side_of : Rel → Bool → Sign
side_of Eq upper = if upper then Positive else Negative
side_of AtLeast upper = Negative

-- The row that says that the sum of the forms, each times its coefficient, lies on this side of the constant.
abbrev pub negated_row : ℕ → List Form → List ℤ → ℤ → Sign → Row
negated_row columns forms coefs constant side =
    sign_row side (composed columns (record { coefs = coefs; constant = neg_ℤ constant }) forms)

-- The rows that say that the atom fails of the forms' values: none for `false`, which always fails.
abbrev pub negated_rows : ℕ → List Form → Atom → Bool → List Row
negated_rows columns forms False upper = []
negated_rows columns forms (Linear coefs constant rel) upper =
    negated_row columns forms coefs constant (side_of rel upper) ∷ []

-- ---- an obligation

-- The atoms that a family has at a node, and none where it lacks the node.
abbrev pub atoms_or_none : Option (List Atom) → List Atom
atoms_or_none None = []
atoms_or_none (Some atoms) = atoms

-- How many coefficients the first linear atom has; where there is none, 0.
abbrev pub first_width : List Atom → ℕ
first_width [] = 0
first_width (False ∷ atoms) = first_width atoms
first_width (Linear coefs constant rel ∷ atoms) = length coefs

-- How many columns an obligation has: as many as the clause, or as the linear atoms at its start where it has no row
-- and no form.
abbrev pub columns_over : List Atom → Clause → ℕ
columns_over atoms clause = columns_in (first_width atoms) clause.rows clause.after

-- The rows of the obligation that the clause ends with the atom; of an equality's two, of the upper one where told.
abbrev pub obligation_rows : Family → Clause → Atom → Bool → List Row
obligation_rows family clause atom upper =
    let atoms : List Atom = atoms_or_none (atoms_at family clause.from) in
    let columns : ℕ = columns_over atoms clause in
    map (atom_row columns) atoms ++ clause.rows ++ negated_rows columns clause.after atom upper

-- ---- the obligations of a family

-- That a clause of a product ends with an atom of a family; of an equality's two, whether it is the upper one.
pub record Obligation : Type 0 where
  pub clause : Clause
  pub atom : Atom
  pub upper : Bool

-- Its rows.
abbrev pub rows_of : Family → Obligation → List Row
rows_of family obligation = obligation_rows family obligation.clause obligation.atom obligation.upper

-- The obligation with these parts.
abbrev pub obligation : Clause → Atom → Bool → Obligation
obligation clause atom upper = record { clause = clause; atom = atom; upper = upper }

-- Those of a clause and an atom at its end: an equality has two, the lower one first, and another atom has one.
abbrev pub obligations_at : Clause → Atom → List Obligation
obligations_at clause False = obligation clause False false ∷ []
obligations_at clause (Linear coefs constant Eq) =
    obligation clause (Linear coefs constant Eq) false ∷ obligation clause (Linear coefs constant Eq) true ∷ []
obligations_at clause (Linear coefs constant AtLeast) = obligation clause (Linear coefs constant AtLeast) false ∷ []

-- Those of a clause, in the order of the family's atoms at its end.
abbrev pub obligations_for : Family → Clause → List Obligation
obligations_for family clause = flat_map (obligations_at clause) (atoms_or_none (atoms_at family clause.to))

-- All of them, in the order of the product's clauses. Their numbers count from 0.
abbrev pub obligations_of : Family → Product → List Obligation
obligations_of family product = flat_map (obligations_for family) product.clauses

-- ---- what a call may be given

-- The coefficients are so many, each from -2 to 2, and the constant is below 2^50 in size.
pub record FitsWidth (width : ℕ) (coefs : List ℤ) (constant : ℤ) : Type 0 where
  pub as_many : length coefs ≡ width
  pub small : All (λ coef. unsigned_abs coef ≤ 2) coefs
  pub fits : FitsForm constant

-- The atom is `false`, or fits so many variables.
abbrev pub FitsNode : ℕ → Atom → Type 0
FitsNode width False = Unit {0}
FitsNode width (Linear coefs constant rel) = FitsWidth width coefs constant

-- The family has the node, and its atoms there fit so many variables.
abbrev pub HasFittingAtoms : Family → Node → ℕ → Type 0
HasFittingAtoms family node width = IsSomeAnd (atoms_at family node) (All (FitsNode width))

-- The rows of the obligation can be made: the family has the clause's first node, with atoms over so many variables,
-- the clause leads from there to so many, and the atom is over these. At each end there are at most 16.
pub record CanOblige (family : Family) (clause : Clause) (atom : Atom) : Type 0 where
  pub start : ℕ
  pub end : ℕ
  pub at_start : HasFittingAtoms family clause.from start
  pub at_end : FitsNode end atom
  pub between : FitsClause start end clause
  pub few_at_start : start ≤ 16
  pub few_at_end : end ≤ 16

-- A sum of these forms over so many columns, each times its coefficient, has entries below 2^56 in size.
pub record CanNegate (columns : ℕ) (forms : List Form) (coefs : List ℤ) : Type 0 where
  pub as_many : length coefs ≡ length forms
  pub few : length coefs ≤ 16
  pub small : All (λ coef. unsigned_abs coef ≤ 2) coefs
  pub long : All (λ form. length form.coefs ≡ columns) forms
  pub fit : All IsFittingForm forms

-- ---- what obligations say

-- The sum fails to stand so to the constant; at an equality, on the upper side where told.
abbrev pub Misses : Rel → Bool → ℤ → ℤ → Type 0
Misses Eq true sum constant = constant <ℤ sum
Misses Eq false sum constant = sum <ℤ constant
Misses AtLeast upper sum constant = sum <ℤ constant

-- The atom fails of the values; an equality, on the upper side where told.
abbrev pub AtomFails : Atom → Bool → List ℤ → Type 0
AtomFails False upper values = Unit {0}
AtomFails (Linear coefs constant rel) upper values = Misses rel upper (dot coefs values) constant

-- Where a clause leads from values in the family to others, of which an atom fails, all rows of the obligation hold.
abbrev pub FailuresMeetObligations : Type 0
FailuresMeetObligations =
    (family : Family) (clause : Clause) (atom : Atom) (upper : Bool) (values after unknowns : List ℤ)
    → HasFittingAtoms family clause.from (length values) → InFamily family clause.from values
    → LeadsWith values after clause unknowns → AtomFails atom upper after
    → All (Holds (values ++ unknowns)) (obligation_rows family clause atom upper)

-- No whole numbers meet the rows of any of the obligations.
abbrev pub AreRefuted : Family → List Obligation → Type 0
AreRefuted family obligations = All (λ obligation. HasNoIntegerPoint (rows_of family obligation)) obligations

-- Where a clause leads from values in the family to others, an atom holds of these once its obligations are refuted.
abbrev pub RefutedAtomsHold : Type 0
RefutedAtomsHold = (family : Family) (clause : Clause) (atom : Atom) (values after : List ℤ)
    → HasFittingAtoms family clause.from (length values) → InFamily family clause.from values
    → LeadsTo values after clause → AreRefuted family (obligations_at clause atom) → AtomHolds atom after

-- Once all obligations of a family are refuted, each clause leads from values in the family to values in it, where it
-- has the node at the clause's end.
abbrev pub RefutedFamiliesAreKept : Type 0
RefutedFamiliesAreKept = (family : Family) (product : Product) → AreRefuted family (obligations_of family product)
    → (clause : Clause) → Contains product.clauses clause → IsSome (atoms_at family clause.to)
    → (values after : List ℤ) → HasFittingAtoms family clause.from (length values)
    → InFamily family clause.from values → LeadsTo values after clause → InFamily family clause.to after
