use Rattle.std.proofs.Common.{arith}
use Rattle.std.proofs.lemmas.Result.{err_from_is_err_and}
use Rattle.horn_clauses.specs.declared.clause.Clause.{Clause}
use Rattle.horn_clauses.specs.Obligations.{obligations_for}
use Rattle.houdini.proofs.Asking.{adds_next, clause_ends}
use Rattle.houdini.proofs.pass.ask_clauses.Goals as goal

pub returns-in_err-ask_clause-clause-answers : goal.returns-in_err-ask_clause-clause-answers
returns-in_err-ask_clause-clause-answers g c =
    let p = err_from_is_err_and c.from_residual.result c.from_residual.ensures.1 in
    rw (p.1, p.2) (clause_ends c.args.family.now c.args.clauses.now c.args.cap c.loop-number.number c.index-clauses-number.result c.args.lists.now
    c.loop-number.lists c.ask_clause.new.lists c.in_err-ask_clause.field-0.0 c.loop-number-test.true c.index-clauses-number.is
    c.loop-number.invariant.adds c.in_err-ask_clause.ensures.answers)

pub loop-number-preserved : goal.loop-number-preserved
loop-number-preserved g c = record {
  adds = adds_next c.args.family.now Clause (obligations_for c.args.family.now) c.args.clauses.now c.loop-number.number c.index-clauses-number.result
      c.loop-number-test.true c.index-clauses-number.is c.args.lists.now c.loop-number.lists c.ask_clause.new.lists c.loop-number.invariant.adds
      c.in_ok-ask_clause.ensures.answers;
  later = omega (arith, c.loop-number.invariant.later, c.ask_clause.ensures.later);
}
