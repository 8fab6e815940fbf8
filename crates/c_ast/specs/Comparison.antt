-- What a search is about.
use Rattle.std.specs.Prelude.{◌≡◌, Option, Some}
use Rattle.c_ast.specs.declared.expr.Expr.{Expr}
use Rattle.c_ast.specs.Tree.{Expression}
use Rattle.c_ast.specs.View.{expression_of}
use Rattle.c_ast.specs.Step.{first_variables}
use Rattle.c_ast.specs.Formed.{IsOver}
use Rattle.c_ast.specs.Function.{Function, IsFunction}
use Rattle.c_ast.specs.Bounds.{Bounds}
use Rattle.c_ast.specs.Condition.{given_condition}

-- Two functions that are compared, the settings, and the condition on the inputs, if one is given.
pub record Comparison : Type 0 where
  pub first : Function
  pub second : Function
  pub settings : Bounds
  pub condition : Option Expr

-- The comparison of these parts.
abbrev pub comparison : Function → Function → Bounds → Option Expr → Comparison
comparison first second settings condition =
    record { first = first; second = second; settings = settings; condition = condition }

-- The functions have as many parameters.
abbrev pub HasOneArity : Comparison → Type 0
HasOneArity c = c.first.params ≡ c.second.params

-- The condition of a comparison: the constant 1 where none is given.
abbrev pub condition_of : Comparison → Expression
condition_of c = given_condition c.condition

-- The condition is an expression over a function's parameters, of the form that its expressions have.
abbrev pub IsCondition : Function → Expr → Type 0
IsCondition f condition = IsOver (first_variables f.params) (expression_of condition)

-- The parts make a comparison: both functions are well formed and have as many parameters, and the condition is one
-- over these.
pub record IsComparison (c : Comparison) : Type 0 where
  pub first : IsFunction c.first
  pub second : IsFunction c.second
  pub arity : HasOneArity c
  pub condition : (condition : Expr) → c.condition ≡ Some condition → IsCondition c.first condition
