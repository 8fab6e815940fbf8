-- Where the variables in scope are among the first n, so are those that expressions read there.
use Rattle.std.proofs.lemmas.Bool.{eqb-true}
use Rattle.std.proofs.Common.{◌≡◌, ℕ, zero, suc, ◌<◌, Bool, true, false, eqb, ◌||◌, refl, sym, subst, arith}
use Rattle.c_ast.specs.Tree.{Num, Var, Un, Bin, Cond}
use Rattle.c_ast.specs.Value.{CanEvaluate}
use Rattle.c_ast.specs.Step.{is_in, first_variables}
use Rattle.c_ast.specs.Environments.{OverCanEvaluate, SetCanEvaluate, SetStaysBelow, ParametersAreBelow}

pub over_below : OverCanEvaluate
over_below (Num z) n s below over = tt
over_below (Var x) n s below over = below.by x over
over_below (Un op e) n s below over = over_below e n s below over
over_below (Bin op e f) n s below over = (over_below e n s below over.0, over_below f n s below over.1, over.2)
over_below (Cond c e f) n s below over = (over_below c n s below over.0, over_below e n s below over.1, over_below f n s below over.2)

pub set_below : SetCanEvaluate
set_below true e n s below set = over_below e n s below set
set_below false e n s below set = subst (CanEvaluate n) (sym set) tt

pub more_below : SetStaysBelow
more_below n x s here below = record { by = λ y is. on y (eqb x y) refl is }
  where
    on : (y : ℕ) (t : Bool) → eqb x y ≡ t → (t || is_in s y) ≡ true → y < n
    on y true same is = subst (λ (z : ℕ). z < n) (eqb-true x y same) here
    on y false other is = below.by y is

pub first_below : ParametersAreBelow
first_below zero n le = record { by = λ x is. cc }
first_below (suc p) n le = more_below n p (first_variables p) (omega arith) (first_below p n (omega arith))
