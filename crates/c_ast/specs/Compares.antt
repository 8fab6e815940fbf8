-- What the making of a comparison comes to.
use Rattle.std.specs.Prelude.{◌≡◌, ◌≢◌, Option, Result, Ok, Err}
use Rattle.c_ast.specs.declared.expr.Expr.{Expr}
use Rattle.c_ast.specs.declared.subject.Arity.{Arity}
use Rattle.c_ast.specs.Function.{Function}
use Rattle.c_ast.specs.Bounds.{Bounds}
use Rattle.c_ast.specs.Comparison.{Comparison, comparison}

-- The comparison of these parts, where the functions have as many parameters; both numbers, where they have not.
abbrev pub Compares : Function → Function → Bounds → Option Expr → Result Comparison Arity → Type 0
Compares first second settings condition (Ok made) =
    (first.params ≡ second.params) × (made ≡ comparison first second settings condition)
Compares first second settings condition (Err arity) =
    (first.params ≢ second.params) × (arity.first ≡ first.params) × (arity.second ≡ second.params)
