-- The narrow value of a choice.
use Rattle.std.proofs.Common.{◌≡◌, Bool, true, false, cond, List, Option, Some, ℤ, refl, ap, ◌∙◌}
use Rattle.c_ast.specs.Tree as tree
use Rattle.c_ast.specs.Value.{eval, is_nonzero}
use Rattle.c_ast.specs.View.{expression_of}
use Rattle.c_ast.specs.FitsRun.{fits_run, parts_fit_run, only_if, fitting_value}
use Rattle.c_ast.specs.declared.expr.Expr.{Expr, Cond}
use Rattle.c_ast.proofs.Levels.{expression_of-Cond}

-- what is handed out was narrow, and is the value
handed_out : (narrow : Bool) (z value : ℤ) → Some value ≡ only_if narrow z → (narrow ≡ true) × (value ≡ z)
handed_out true z value is = (refl, (cc))
handed_out false z value is = cc

-- The condition and both parts have narrow values, so the choice between them is the narrow value of the whole.
pub fitting_value-Cond : (e c a b : Expr) (env : List ℤ) (test first second : ℤ) (result : Option ℤ) → e ≡ Cond c a b
    → Some test ≡ fitting_value (expression_of c) env → Some first ≡ fitting_value (expression_of a) env → Some second ≡ fitting_value (expression_of b) env
    → result ≡ only_if (fits_run (cond (is_nonzero test) first second)) (cond (is_nonzero test) first second) → result ≡ fitting_value (expression_of e) env
fitting_value-Cond e c a b env test first second result is test_is first_is second_is result_is =
    let t = handed_out (parts_fit_run (expression_of c) env) (eval (expression_of c) env) test test_is in
    let p = handed_out (parts_fit_run (expression_of a) env) (eval (expression_of a) env) first first_is in
    let q = handed_out (parts_fit_run (expression_of b) env) (eval (expression_of b) env) second second_is in
    let whole : expression_of e ≡ tree.Cond (expression_of c) (expression_of a) (expression_of b) = ap expression_of is ∙ expression_of-Cond c a b in
    rw (whole, result_is, t.1, p.1, q.1) (rw (t.0, p.0, q.0))
