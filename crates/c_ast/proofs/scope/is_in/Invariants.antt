use Rattle.std.proofs.Common.{◌≡◌, drop}
use Rattle.c_ast.specs.Step.{is_in}
use Rattle.c_ast.proofs.scope.is_in.Given as goal

abbrev pub invariant-loop-y : goal.invariant-loop-y
invariant-loop-y l = is_in l.scope l.x ≡ is_in (drop l.y-index l.scope) l.x
