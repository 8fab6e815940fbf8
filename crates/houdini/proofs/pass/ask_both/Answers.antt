use Rattle.std.proofs.Common.{[], ◌∷◌, true, false}
use Rattle.std.proofs.lemmas.Result.{err_from_is_err_and}
use Rattle.horn_clauses.specs.Obligations.{obligation}
use Rattle.houdini.proofs.Asking.{first_ends, second_ends}
use Rattle.houdini.proofs.pass.ask_both.Goals as goal

pub returns-in_err-ask-clause-answers : goal.returns-in_err-ask-clause-answers
returns-in_err-ask-clause-answers g c =
    let p = err_from_is_err_and c.from_residual.result c.from_residual.ensures.1 in
    rw (p.1, p.2) (first_ends c.args.family.now (obligation c.args.clause.now c.args.atom.now false ∷ [])
    (obligation c.args.clause.now c.args.atom.now true ∷ []) c.args.cap c.args.lists.now c.ask.new.lists c.in_err-ask.field-0.0
    c.in_err-ask.ensures.answers)

pub returns-in_err-ask-2-clause-answers : goal.returns-in_err-ask-2-clause-answers
returns-in_err-ask-2-clause-answers g c =
    let p = err_from_is_err_and c.from_residual-in_err-ask-2.result c.from_residual-in_err-ask-2.ensures.1 in
    rw (p.1, p.2) (second_ends c.args.family.now (obligation c.args.clause.now c.args.atom.now false ∷ [])
    (obligation c.args.clause.now c.args.atom.now true ∷ []) c.args.cap c.args.lists.now c.ask.new.lists c.ask-2.new.lists
    c.in_err-ask-2.field-0.0 c.in_ok-ask.ensures.answers c.in_err-ask-2.ensures.answers)
