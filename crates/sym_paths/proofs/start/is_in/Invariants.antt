use Rattle.std.proofs.Common.{◌≡◌, drop}
use Rattle.c_ast.specs.Step.{is_in}
use Rattle.sym_paths.proofs.start.is_in.Given as goal

abbrev pub invariant-loop-y : goal.invariant-loop-y
invariant-loop-y l = is_in l.variables l.x ≡ is_in (drop l.y-index l.variables) l.x
