use Rattle.std.proofs.Common.{◌≡◌, ◌++◌, [], refl, append-nil}
use Rattle.c_ast.specs.View.{statements_of}
use Rattle.miners.specs.Constants.{constants_in, ten_least}
use Rattle.miners.proofs.constants.bound_constants.Goals as goal

pub returns : goal.returns
returns c =
    let one = c.in_ok-keep_stmts.ensures.by [] c.new-kept.ensures.items in
    let two : c.keep_stmts-2.new.kept.items ≡ ten_least
    (constants_in (statements_of c.body-2.result.now) ++ (constants_in (statements_of c.body.result.now) ++ [])) =
    c.in_ok-keep_stmts-2.ensures.by (constants_in (statements_of c.body.result.now) ++ []) one in
    rw (
      c.from_vec.ensures,
      c.in_ok-extend_from_slice.ensures.items,
      c.in_ok-push-3.ensures.items,
      c.in_ok-push-2.ensures.items,
      c.in_ok-push.ensures.items,
      c.in_ok-made.ensures.items,
      c.as_slice.ensures.value,
      two,
      append-nil (constants_in (statements_of c.body.result.now)),
      c.body-2.ensures.body,
      c.body.ensures.body,
    ) refl
