use Rattle.std.proofs.lemmas.Result.{err_from_is_err_and}
use Rattle.c_source.proofs.Functions.{check_refused}
use Rattle.c_source.proofs.function.reading.Goals as goal

pub returns-in_err-check-clause-refused : goal.returns-in_err-check-clause-refused
returns-in_err-check-clause-refused c =
    let gives = err_from_is_err_and c.from_residual-in_err-check.result c.from_residual-in_err-check.ensures.1 in
    rw (gives.1, gives.2) (check_refused c.args.text.now _
    (record {
      tokens = c.in_ok-tokens.tokens.items;
      are = c.in_ok-tokens.ensures.tokens;
      nested = rw c.deref.ensures.value at c.in_ok-unit.ensures.nested;
      spells = rw c.deref.ensures.value at c.in_ok-unit.ensures.spelled;
      shallow = c.in_ok-unit.ensures.shallow;
    })
    c.in_err-check.field-0.0 c.in_err-check.ensures.refused)
