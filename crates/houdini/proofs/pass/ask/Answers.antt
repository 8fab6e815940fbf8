use Rattle.std.proofs.lemmas.Result.{err_from_is_err_and}
use Rattle.horn_clauses.specs.Obligations.{obligation}
use Rattle.houdini.proofs.Asking.{refused_one}
use Rattle.houdini.proofs.pass.ask.Goals as goal

pub returns-in_err-multipliers-clause-answers : goal.returns-in_err-multipliers-clause-answers
returns-in_err-multipliers-clause-answers g c =
    let p = err_from_is_err_and c.from_residual.result c.from_residual.ensures.1 in
    rw (p.1, p.2) (refused_one c.args.family.now (obligation c.args.clause.now c.args.atom.now c.args.upper) c.args.cap c.args.lists.now
    c.in_err-multipliers.field-0.0 c.in_err-multipliers.ensures)
