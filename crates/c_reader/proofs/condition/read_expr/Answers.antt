use Rattle.std.proofs.Common.{◌≡◌, length, arith}
use Rattle.std.proofs.lemmas.Bool.Decides.{nat_tests}
use Rattle.std.proofs.lemmas.Result.{err_from_is_err_and}
use Rattle.c_ast.specs.RawView.{raw_expression_of}
use Rattle.c_reader.proofs.Shaped.{natural}
use Rattle.c_reader.proofs.WholeExpressions.{refused-expression, unfinished-expression, whole-sound}
use Rattle.c_reader.proofs.condition.read_expr.Goals as goal

pub returns-in_err-expr-clause-none : goal.returns-in_err-expr-clause-none
returns-in_err-expr-clause-none c is_grammar e spells =
    let p = err_from_is_err_and c.from_residual.result c.from_residual.ensures.1 in
    refused-expression 400 c.args.tokens.now e c.in_err-expr.field-0.0 c.from_residual.result p.0 p.1 p.2 is_grammar
    c.in_err-expr.ensures spells

pub returns-then-not-is_empty-clause-none : goal.returns-then-not-is_empty-clause-none
returns-then-not-is_empty-clause-none c is_grammar e spells =
    let test = c.if-not-is_empty.true in
    unfinished-expression 400 c.args.tokens.now c.in_ok-expr.others.now e (raw_expression_of c.in_ok-expr.expr)
    c.in_ok-expr.ensures (λ none. absurd (grind (arith, nat_tests))) spells

pub returns-clause-spelled : goal.returns-clause-spelled
returns-clause-spelled c =
    let test = c.if-not-is_empty.false in
    let empty : length c.in_ok-expr.others.now ≡ 0 = grind (arith, nat_tests) in
    (whole-sound 400 c.args.tokens.now (raw_expression_of c.in_ok-expr.expr) c.in_ok-expr.others.now
    c.in_ok-expr.ensures empty).0

pub returns-clause-shallow : goal.returns-clause-shallow
returns-clause-shallow c =
    let test = c.if-not-is_empty.false in
    let empty : length c.in_ok-expr.others.now ≡ 0 = grind (arith, nat_tests) in
    (whole-sound 400 c.args.tokens.now (raw_expression_of c.in_ok-expr.expr) c.in_ok-expr.others.now
    c.in_ok-expr.ensures empty).1

pub returns-clause-shaped : goal.returns-clause-shaped
returns-clause-shaped c =
    let test = c.if-not-is_empty.false in
    let empty : length c.in_ok-expr.others.now ≡ 0 = grind (arith, nat_tests) in
    natural 0 (raw_expression_of c.in_ok-expr.expr) c.args.tokens.now
    (whole-sound 400 c.args.tokens.now (raw_expression_of c.in_ok-expr.expr) c.in_ok-expr.others.now
    c.in_ok-expr.ensures empty).0
