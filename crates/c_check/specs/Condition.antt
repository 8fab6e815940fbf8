-- Which expression a condition on a function's inputs stands for, and why it stands for none. The rules on names and
-- divisors are those of a function's own expressions.
use Rattle.std.specs.Prelude.{◌≡◌, List, [], map, take, Option, Some, None}
use Rattle.c_ast.specs.declared.func.Var.{Var}
use Rattle.c_ast.specs.RawTree.{RawExpression}
use Rattle.c_ast.specs.Tree.{Expression}
use Rattle.c_ast.specs.Function.{Function}
use Rattle.c_check.specs.declared.fault.CheckFault.{CheckFault}
use Rattle.c_check.specs.declared.fault.CheckFault.TheVariants as fault
use Rattle.c_check.specs.Resolves.{Bindings, with_declared, ResolvesExpression}
use Rattle.c_check.specs.Occurrences.{with_names, in_expression, plain}
use Rattle.c_check.specs.Faults.{first_fault}

-- the parameters of a checked function: they are the first of its variables
abbrev pub parameters : Function → List Var
parameters func = take func.params func.vars

-- the parameters in scope, by number
abbrev pub parameters_in_scope : Function → Bindings
parameters_in_scope func = with_declared (map plain (parameters func)) 0 []

-- the first fault of a condition, if it has one: a name of no parameter, or a division by no divisor
abbrev pub fault_in_condition : Function → RawExpression → Option CheckFault
fault_in_condition func expr = first_fault [] (in_expression (with_names (map plain (parameters func)) []) expr)

-- The condition is this expression over the parameters, and no rule is broken in it.
pub record IsCheckedCondition (func : Function) (expr : RawExpression) (made : Expression) : Type 0 where
  pub faultless : fault_in_condition func expr ≡ None
  pub resolves : ResolvesExpression (parameters_in_scope func) expr made

-- Why the condition is none. Want of memory says nothing.
abbrev pub IsConditionFault : Function → RawExpression → CheckFault → Type 0
IsConditionFault func expr fault.Memory = Unit {0}
IsConditionFault func expr first = fault_in_condition func expr ≡ Some first

-- A condition is one expression at most.
abbrev pub IsSameCondition : Type 0
IsSameCondition = (func : Function) (expr : RawExpression) (first second : Expression)
    → IsCheckedCondition func expr first → IsCheckedCondition func expr second → first ≡ second
