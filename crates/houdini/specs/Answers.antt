-- What a search answers.
use Rattle.std.specs.Prelude.{◌≡◌, ℕ, List, slice_get, Some, Err}
use Rattle.lin_terms.specs.declared.row.Row.{Row}
use Rattle.elimination.specs.declared.answer.Limit.{Limit}
use Rattle.elimination.specs.declared.answer.Limit.TheVariants.{Memory}
use Rattle.elimination.specs.Eliminated.{eliminated}
use Rattle.horn_clauses.specs.declared.clause.Product.{Product}
use Rattle.horn_clauses.specs.declared.clause.Proofs.{Proofs}
use Rattle.horn_clauses.specs.declared.family.Family.{Family}
use Rattle.horn_clauses.specs.Node.{entries}
use Rattle.horn_clauses.specs.Family.{atoms_at}
use Rattle.horn_clauses.specs.Obligations.{Obligation, rows_of, obligations_of}
use Rattle.coupling_check.specs.Checks.{Checks}
use Rattle.houdini.specs.declared.search.Outcome.{Outcome}
use Rattle.houdini.specs.declared.search.Outcome.TheVariants as outcome
use Rattle.houdini.specs.Within.{IsWithin}
use Rattle.houdini.specs.Linear.{IsLinearWithin, ContainsLinear}

-- The family is the greatest of the linear families of the candidates, and the proofs prove its obligations.
pub record IsGreatest (product : Product) (candidates family : Family) (proofs : Proofs) : Type 0 where
  pub linear : IsLinearWithin product candidates family
  pub greatest : ContainsLinear product candidates family
  pub checks : Checks product family proofs

-- Elimination of the rows with this cap meets this limit, which is not want of memory.
pub record IsLimitOf (rows : List Row) (cap : ℕ) (limit : Limit) : Type 0 where
  pub meets : eliminated rows cap ≡ Err limit
  pub no_memory : ¬ (limit ≡ Memory)

-- The family's obligation with this number has this limit.
pub record MeetsLimit (product : Product) (family : Family) (cap number : ℕ) (limit : Limit) : Type 0 where
  pub asked : Obligation
  pub numbered : slice_get (obligations_of family product) number ≡ Some asked
  pub limited : IsLimitOf (rows_of family asked) cap limit

-- What is left is one of the candidates, with all of those at the entries, contains every linear family of them, and
-- has an obligation with a limit.
pub record EndsAtLimit (product : Product) (candidates : Family) (cap number : ℕ) (left : Family) (limit : Limit)
    : Type 0 where
  pub within : IsWithin left candidates
  pub at_entries : atoms_at left entries ≡ atoms_at candidates entries
  pub contains : ContainsLinear product candidates left
  pub limited : MeetsLimit product left cap number limit

-- No family of the candidates is linear.
abbrev pub HasNoLinear : Product → Family → Type 0
HasNoLinear product candidates = (family : Family) → ¬ IsLinearWithin product candidates family

-- The outcome is right of the product and the candidates, with lists of at most `cap` rows in elimination.
abbrev pub AnswersSearch : Product → Family → ℕ → Outcome → Type 0
AnswersSearch product candidates cap (outcome.Kept family proofs) = IsGreatest product candidates family proofs
AnswersSearch product candidates cap outcome.NoCoupling = HasNoLinear product candidates
AnswersSearch product candidates cap (outcome.Limit obligation left limit) =
    EndsAtLimit product candidates cap obligation left limit
