use Rattle.std.proofs.lemmas.Result.{err_from_is_err_and}
use Rattle.c_reader.proofs.UnitCompleteness.{refused-deep}
use Rattle.c_reader.proofs.Shaped.{shaped_unit}
use Rattle.c_reader.proofs.UnitSoundness.{unit_at-sound}
use Rattle.c_reader.proofs.unit.read_unit.Goals as goal

pub returns-in_err-funcs-clause-none : goal.returns-in_err-funcs-clause-none
returns-in_err-funcs-clause-none c is_grammar unit spells =
    let p = err_from_is_err_and c.from_residual.result c.from_residual.ensures.1 in
    refused-deep 399 c.args.tokens.now unit c.in_err-funcs.field-0.0 c.from_residual.result p.0 p.1 p.2 is_grammar
    c.in_err-funcs.ensures spells

pub returns-clause-spelled : goal.returns-clause-spelled
returns-clause-spelled c = (unit_at-sound 399 c.args.tokens.now _ c.in_ok-funcs.ensures).0

pub returns-clause-shallow : goal.returns-clause-shallow
returns-clause-shallow c = (unit_at-sound 399 c.args.tokens.now _ c.in_ok-funcs.ensures).1

pub returns-clause-shaped : goal.returns-clause-shaped
returns-clause-shaped c = shaped_unit c.args.tokens.now _ (unit_at-sound 399 c.args.tokens.now _ c.in_ok-funcs.ensures).0
