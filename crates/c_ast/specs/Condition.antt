-- Conditions on the inputs.
use Rattle.std.specs.Prelude.{◌≡◌, true, List, ℤ, pos, Option, Some, None}
use Rattle.c_ast.specs.declared.expr.Expr.{Expr}
use Rattle.c_ast.specs.Tree.{Expression, Num}
use Rattle.c_ast.specs.Value.{eval, is_nonzero}
use Rattle.c_ast.specs.View.{expression_of}

-- The inputs meet the condition: its value over the parameters is not 0.
abbrev pub Meets : Expression → List ℤ → Type 0
Meets condition inputs = is_nonzero (eval condition inputs) ≡ true

-- The condition that all inputs meet: the constant 1.
abbrev pub no_condition : Expression
no_condition = Num (pos 1)

-- The condition that is given, or the one that all inputs meet.
abbrev pub given_condition : Option Expr → Expression
given_condition None = no_condition
given_condition (Some condition) = expression_of condition
