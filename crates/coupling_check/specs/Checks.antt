-- Multipliers for each of the obligations of a family.
use Rattle.std.specs.Prelude.{◌≡◌, ◌≤◌, ◌<◌, ◌+◌, ℕ, suc, ℤ, List, [], ◌∷◌, length, take, drop, Result, Ok, Err, All}
use Rattle.lin_terms.specs.declared.row.Row.{Row}
use Rattle.lin_terms.specs.Bounds.{FitsRow}
use Rattle.farkas_check.specs.Refutes.{Refutes, IsRefutable}
use Rattle.horn_clauses.specs.declared.clause.Clause.{Clause}
use Rattle.horn_clauses.specs.declared.clause.Product.{Product}
use Rattle.horn_clauses.specs.declared.clause.Proofs.{Proofs}
use Rattle.horn_clauses.specs.declared.family.Family.{Family}
use Rattle.horn_clauses.specs.Clause.{FitsClause}
use Rattle.horn_clauses.specs.Obligations.{HasFittingAtoms, Obligation, rows_of, obligations_of}

-- Some multipliers refute the rows of each of the obligations.
abbrev pub AreRefutable : Family → List Obligation → Type 0
AreRefutable family obligations = All (λ obligation. IsRefutable (rows_of family obligation)) obligations

-- The multipliers, each below 2^56 in size, refute the rows, of which there are at most 4,096.
pub record IsProvedBy (rows : List Row) (multipliers : List ℤ) : Type 0 where
  pub many : length rows ≤ 4096
  pub fit : All FitsRow multipliers
  pub refutes : Refutes rows multipliers

-- Each of the obligations, in order, has its list of multipliers. Lists past the last obligation say nothing.
abbrev pub AreProved : Family → List Obligation → List (List ℤ) → Type 0
AreProved family [] lists = Unit {0}
AreProved family (obligation ∷ obligations) [] = ⊥
AreProved family (obligation ∷ obligations) (multipliers ∷ lists) =
    IsProvedBy (rows_of family obligation) multipliers × AreProved family obligations lists

-- The proofs have a list for each obligation of the family, by its number.
abbrev pub Checks : Product → Family → Proofs → Type 0
Checks product family proofs = AreProved family (obligations_of family product) proofs.lists

-- The first so many of the obligations are proved, and with the next one they are not.
pub record FailsAt (family : Family) (obligations : List Obligation) (lists : List (List ℤ)) (number : ℕ) : Type 0 where
  pub inside : number < length obligations
  pub proved : AreProved family (take number obligations) lists
  pub fails : ¬ AreProved family (take (suc number) obligations) lists

-- What the check comes to: how many obligations the family has, where the proofs have a list for each; or the number of
-- the first one that its list does not prove.
abbrev pub ChecksUpTo : Product → Family → Proofs → Result ℕ ℕ → Type 0
ChecksUpTo product family proofs (Ok count) =
    Checks product family proofs × (count ≡ length (obligations_of family product))
ChecksUpTo product family proofs (Err number) = FailsAt family (obligations_of family product) proofs.lists number

-- The obligations have the lists from the one number up to the other.
pub record AreProvedUpTo (family : Family) (obligations : List Obligation) (lists : List (List ℤ))
    (start end : ℕ) : Type 0 where
  pub proved : AreProved family obligations (drop start lists)
  pub until : end ≡ start + length obligations

-- So many of the obligations have the lists from the one number on, and the next one, whose list has the other number,
-- is not proved by it.
pub record FailsFrom (family : Family) (obligations : List Obligation) (lists : List (List ℤ))
    (start number : ℕ) : Type 0 where
  pub place : ℕ
  pub fails : FailsAt family obligations (drop start lists) place
  pub until : number ≡ start + place

-- The answer is the number behind the obligations' own, where they have the lists from this number on, and else that of
-- the first one that its list does not prove.
abbrev pub Reaches : Family → List Obligation → List (List ℤ) → ℕ → Result ℕ ℕ → Type 0
Reaches family obligations lists number (Ok next) = AreProvedUpTo family obligations lists number next
Reaches family obligations lists number (Err first) = FailsFrom family obligations lists number first

-- The family has both nodes of the clause, with atoms over so many variables as the clause has there: at most 16.
pub record CanCheckClause (family : Family) (clause : Clause) : Type 0 where
  pub start : ℕ
  pub end : ℕ
  pub at_start : HasFittingAtoms family clause.from start
  pub at_end : HasFittingAtoms family clause.to end
  pub between : FitsClause start end clause
  pub few_at_start : start ≤ 16
  pub few_at_end : end ≤ 16

-- The obligations of the family can be checked: the clauses of the product fit the family.
abbrev pub CanCheck : Product → Family → Type 0
CanCheck product family = All (CanCheckClause family) product.clauses
