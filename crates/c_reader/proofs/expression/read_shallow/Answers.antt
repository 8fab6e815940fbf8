use Rattle.std.proofs.lemmas.Result.{err_from_is_err_and}
use Rattle.c_reader.proofs.Shallow.{shallow-refuses}
use Rattle.c_reader.proofs.expression.read_shallow.Goals as goal

pub returns-in_err-tree : goal.returns-in_err-tree
returns-in_err-tree c =
    let p = err_from_is_err_and c.from_residual.result c.from_residual.ensures.1 in
    rw (p.1, p.2) (shallow-refuses c.in_err-tree.field-0.0 c.args.room c.args.tokens.now c.in_err-tree.ensures.refused)
