use Rattle.std.proofs.Common.{◌≡◌, ◌≤◌, length, drop}
use Rattle.c_ast.specs.View.{statements_of}
use Rattle.c_ast.specs.Scope.{set_before}
use Rattle.c_ast.proofs.scope.+before.Given as goal

abbrev pub invariant-set_before-loop-i : goal.invariant-set_before-loop-i
invariant-set_before-loop-i l = record {
  within : l.i ≤ length l.stmts;
  found : l.found ≡ set_before l.mark (statements_of (drop l.i l.stmts));
}

abbrev pub decreases-set_before-loop-i : goal.decreases-set_before-loop-i
decreases-set_before-loop-i l = l.i
