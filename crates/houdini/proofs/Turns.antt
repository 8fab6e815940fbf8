-- One turn of the narrowing.
use Rattle.std.proofs.Common.{◌≡◌, ℕ, ◌<◌, List, length, get_or, sym, subst}
use Rattle.std.specs.Prelude.{Contains}
use Rattle.horn_clauses.specs.declared.clause.Clause.{Clause}
use Rattle.horn_clauses.specs.declared.clause.Product.{Product}
use Rattle.horn_clauses.specs.declared.family.Family.{Family}
use Rattle.coupling_check.specs.Checks.{CanCheck}
use Rattle.houdini.specs.Linear.{Narrows}
use Rattle.houdini.specs.Striking.{Strikes}
use Rattle.houdini.proofs.Strikes.{narrows_on, strikes_narrow}
use Rattle.houdini.proofs.Within.{can_check_within}

module _ (product : Product) (family left next : Family) (clauses : List Clause) (number : ℕ) (clause : Clause) (are : clauses ≡ product.clauses)
    (inside : number < length clauses) (at : clause ≡ get_or clauses number clause) (strikes : Strikes clause left next) where
  here : Narrows product left next
  here = strikes_narrow product clause left next (subst (λ (xs : List Clause). Contains xs clause) are (number, inside, sym at)) strikes

  pub turn_narrows : Narrows product family left → Narrows product family next
  turn_narrows narrows = narrows_on product family left next narrows here

  pub turn_can : CanCheck product left → CanCheck product next
  turn_can can = can_check_within product next left here.within can
