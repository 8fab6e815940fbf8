use Rattle.std.proofs.Common.{◌≡◌, ◌++◌, drop}
use Rattle.c_ast.proofs.copy.+copies.Given as goal

abbrev pub invariant-copy_stmts-loop-stmt : goal.invariant-copy_stmts-loop-stmt
invariant-copy_stmts-loop-stmt l = l.made ++ drop l.stmt-index l.stmts ≡ l.stmts
