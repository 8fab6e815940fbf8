-- What it says of a family that it is checked, and that it fails. They are the clauses of a call that does nothing.
use Rattle.std.specs.Prelude.{ℕ, ℤ, List, All}
use Rattle.farkas_check.specs.Refutes.{IsRefutable}
use Rattle.horn_clauses.specs.declared.clause.Product.{Product}
use Rattle.horn_clauses.specs.declared.clause.Proofs.{Proofs}
use Rattle.horn_clauses.specs.declared.family.Family.{Family}
use Rattle.horn_clauses.specs.Obligations.{Obligation, rows_of, obligations_of}
use Rattle.coupling_check.specs.Checks.{Checks, AreProved, FailsAt}

-- Where the proofs check, multipliers refute the rows of each obligation.
abbrev pub CheckedIsRefutable : Type 0
CheckedIsRefutable = (product : Product) (family : Family) (proofs : Proofs) → Checks product family proofs
    → All (λ obligation. IsRefutable (rows_of family obligation)) (obligations_of family product)

-- Where the obligations fail at one of them, they are not all proved.
abbrev pub FailingIsUnproved : Type 0
FailingIsUnproved = (family : Family) (obligations : List Obligation) (lists : List (List ℤ)) (number : ℕ)
    → FailsAt family obligations lists number → ¬ AreProved family obligations lists
