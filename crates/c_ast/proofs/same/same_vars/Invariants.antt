use Rattle.std.proofs.Common.{◌≡◌, take, length}
use Rattle.c_ast.proofs.same.same_vars.Given as goal

abbrev pub invariant-loop-i : goal.invariant-loop-i
invariant-loop-i l = record {
  lengths : length l.first ≡ length l.second;
  same : take l.i l.first ≡ take l.i l.second;
}
