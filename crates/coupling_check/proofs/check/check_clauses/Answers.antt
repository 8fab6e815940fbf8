use Rattle.std.proofs.Common.{arith}
use Rattle.horn_clauses.specs.declared.clause.Clause.{Clause}
use Rattle.horn_clauses.specs.Obligations.{obligations_for}
use Rattle.coupling_check.proofs.Proving.{leads_on, leads_to_failure, leads_to_end}
use Rattle.std.proofs.lemmas.Result.{err_from_is_err_and}
use Rattle.coupling_check.proofs.check.check_clauses.Goals as goal

pub returns-in_err-number : goal.returns-in_err-number
returns-in_err-number c =
    let failed = err_from_is_err_and c.from_residual.result c.from_residual.ensures.1 in
    rw (failed.1, failed.2) (leads_to_failure c.args.family.now Clause (obligations_for c.args.family.now) c.args.clauses.now c.args.lists.now 0
    c.loop-clause.clause-index c.loop-clause.number c.clause-item.result c.loop-clause-test.true c.clause-item.is c.loop-clause.invariant
    c.in_err-number.field-0.0 c.in_err-number.ensures)

pub loop-clause-preserved : goal.loop-clause-preserved
loop-clause-preserved c =
    leads_on c.args.family.now Clause (obligations_for c.args.family.now) c.args.clauses.now c.args.lists.now 0 c.loop-clause.clause-index
    c.loop-clause.number c.clause-item.result c.loop-clause-test.true c.clause-item.is c.loop-clause.invariant c.in_ok-number.number c.in_ok-number.ensures

pub returns : goal.returns
returns c =
    leads_to_end c.args.family.now Clause (obligations_for c.args.family.now) c.args.clauses.now c.args.lists.now 0 c.loop-clause.clause-index
    c.loop-clause.number (omega (arith, c.loop-clause-test.false)) c.loop-clause.invariant
