use Rattle.std.proofs.lemmas.Result.{err_from_is_err_and}
use Rattle.c_source.proofs.Conditions.{check_refused}
use Rattle.c_source.proofs.condition.condition.Goals as goal

pub returns-in_err-check_condition-clause-refused : goal.returns-in_err-check_condition-clause-refused
returns-in_err-check_condition-clause-refused c =
    let gives = err_from_is_err_and c.from_residual-in_err-check_condition.result c.from_residual-in_err-check_condition.ensures.1 in
    rw (gives.1, gives.2) (check_refused c.args.func.now c.args.text.now _
    (record {
      tokens = c.in_ok-tokens.tokens.items;
      are = c.in_ok-tokens.ensures.tokens;
      nested = rw c.deref.ensures.value at c.in_ok-expr.ensures.nested;
      spells = rw c.deref.ensures.value at c.in_ok-expr.ensures.spelled;
      shallow = c.in_ok-expr.ensures.shallow;
    })
    c.in_err-check_condition.field-0.0 c.in_err-check_condition.ensures.refused)
