-- The tree of an expression, a level at a time.
use Rattle.std.proofs.Common.{◌≡◌, ap, ◌∙◌}
use Rattle.c_ast.specs.Tree as tree
use Rattle.c_ast.specs.Tree.{Expression, Statements}
use Rattle.c_ast.specs.View.{expression_level, expression_of}
use Rattle.c_ast.specs.declared.expr.Expr.{Expr, Cond, fold_out-Expr, map-Expr, out-Expr}
use Rattle.c_ast.specs.declared.expr.Expr.TheOpen.{Expr-F}
use Rattle.c_ast.specs.declared.expr.Expr.TheVariants.{outs-Cond}

expression_of-level : (e : Expr) (level : Expr-F Expr) → out-Expr e ≡ level → expression_of e ≡ expression_level (map-Expr Expr Expression expression_of level)
expression_of-level e level is =
    fold_out-Expr Expression expression_level e ∙ ap (λ (y : Expr-F Expr). expression_level (map-Expr Expr Expression expression_of y)) is

pub expression_of-Cond : (c e f : Expr) → expression_of (Cond c e f) ≡ tree.Cond (expression_of c) (expression_of e) (expression_of f)
expression_of-Cond c e f = expression_of-level (Cond c e f) _ (outs-Cond c e f)
