use Rattle.std.proofs.Common.{sym, ap, ◌∙◌}
use Rattle.c_ast.specs.RawTree as tree
use Rattle.c_ast.specs.RawView.{raw_expression_of}
use Rattle.c_tokens.specs.declared.kind.Kind.TheVariants as k
use Rattle.c_reader.specs.Declarations.{Statement}
use Rattle.c_reader.specs.ReadStatements.{ended}
use Rattle.c_reader.proofs.Reading.{step}
use Rattle.c_reader.proofs.ShortStatements.{front-Break, front-Continue, front-Return, front-Mark, short-is}
use Rattle.c_reader.proofs.statement.read_short.Goals as goal

pub returns-in-Break : goal.returns-in-Break
returns-in-Break c =
    let first = c.in-Some.first.now in
    let others = c.in-Some.others.now in
    rw (short-is c.args.room c.args.tokens.now others first k.Break c.if-room-eq0.false c.in-Some.ensures.cases.0
    c.in-Break.is ∙ ap (λ (s : Statement). ended s others) (sym (front-Break first.line))) c.ended.ensures

pub returns-in-Continue : goal.returns-in-Continue
returns-in-Continue c =
    let first = c.in-Some.first.now in
    let others = c.in-Some.others.now in
    rw (short-is c.args.room c.args.tokens.now others first k.Continue c.if-room-eq0.false c.in-Some.ensures.cases.0
    c.in-Continue.is ∙ ap (λ (s : Statement). ended s others) (sym (front-Continue first.line)))
    c.ended-in-Continue.ensures

pub returns-in_ok-expr-in-Return : goal.returns-in_ok-expr-in-Return
returns-in_ok-expr-in-Return c =
    let expr = c.in_ok-expr-in-Return.expr in
    let after = c.in_ok-expr-in-Return.after.now in
    rw (short-is c.args.room c.args.tokens.now c.in-Some.others.now c.in-Some.first.now k.Return c.if-room-eq0.false
    c.in-Some.ensures.cases.0 c.in-Return.is
    ∙ step (λ x. ended (tree.Return x.0) x.1) (raw_expression_of expr, after) c.in_ok-expr-in-Return.ensures
    (ap (λ (s : Statement). ended s after) (sym (front-Return expr)))) c.ended-in-Return.ensures

pub returns-in_ok-number-in-MarkWord : goal.returns-in_ok-number-in-MarkWord
returns-in_ok-number-in-MarkWord c =
    let number = c.in_ok-number-in-MarkWord.number in
    let after = c.in_ok-number-in-MarkWord.after.now in
    rw (short-is c.args.room c.args.tokens.now c.in-Some.others.now c.in-Some.first.now k.MarkWord c.if-room-eq0.false
    c.in-Some.ensures.cases.0 c.in-MarkWord.is
    ∙ step (λ x. ended (tree.Mark x.0) x.1) (number, after) c.in_ok-number-in-MarkWord.ensures
    (ap (λ (s : Statement). ended s after) (sym (front-Mark number)))) c.ended-in-MarkWord.ensures
