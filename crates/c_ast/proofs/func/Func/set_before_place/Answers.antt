use Rattle.std.proofs.Common.{◌∙◌, ap, sym}
use Rattle.c_ast.specs.View.{statements_of}
use Rattle.c_ast.specs.Scope.{set_before}
use Rattle.c_ast.specs.Function.{program_of}
use Rattle.c_ast.proofs.InScope.{before_some, set_before_mark}
use Rattle.c_ast.proofs.func.Func.set_before_place.Goals as goal

pub unwrap-requires : goal.unwrap-requires
unwrap-requires c =
    let found = c.in_ok-found-in-Mark.ensures ∙ ap (λ b. set_before c.in-Mark.mark (statements_of b)) c.body-body.ensures.body in
    before_some (program_of c.args.self.now) c.body-body.ensures.formed c.in-Mark.mark c.args.place c.in-Mark.is c.requires c.in_ok-found-in-Mark.found found

pub returns-in_ok-found-in-Mark-clause-found : goal.returns-in_ok-found-in-Mark-clause-found
returns-in_ok-found-in-Mark-clause-found c =
    let found = c.in_ok-found-in-Mark.ensures ∙ ap (λ b. set_before c.in-Mark.mark (statements_of b)) c.body-body.ensures.body in
    set_before_mark (program_of c.args.self.now) c.body-body.ensures.formed c.in-Mark.mark c.args.place c.in-Mark.is c.unwrap.result (sym c.unwrap.ensures
    ∙ found)
