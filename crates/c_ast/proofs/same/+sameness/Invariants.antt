use Rattle.std.proofs.Common.{◌≡◌, take, length}
use Rattle.c_ast.proofs.same.+sameness.Given as goal

abbrev pub invariant-same_stmts-loop-i : goal.invariant-same_stmts-loop-i
invariant-same_stmts-loop-i l = record {
  lengths : length l.first ≡ length l.second;
  same : take l.i l.first ≡ take l.i l.second;
}
