-- The laws that other crates cite, each the clause of a public function of `law.rt`.
use Rattle.c_check.specs.Checked.{IsSameFunction}
use Rattle.c_check.specs.Condition.{parameters_in_scope, IsSameCondition}
use Rattle.c_check.proofs.Checking as checking

-- `one_function`
pub same_function : IsSameFunction
same_function = checking.same_function

-- `one_condition`
pub same_condition : IsSameCondition
same_condition func expr first second is other =
    checking.same_expression (parameters_in_scope func) expr first second is.resolves other.resolves
