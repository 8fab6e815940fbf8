use Rattle.std.proofs.Common.{◌≤◌, length, drop}
use Rattle.c_ast.specs.View.{statements_of}
use Rattle.miners.specs.Constants.{constants_in, KeepsLeast}
use Rattle.miners.proofs.constants.+keeping.Given as goal

abbrev pub invariant-keep_stmts-loop-i : goal.invariant-keep_stmts-loop-i
invariant-keep_stmts-loop-i l = record {
  within : l.i ≤ length l.stmts;
  kept : KeepsLeast (constants_in (statements_of (drop l.i l.stmts))) l.initial.kept.items l.kept.items;
}

abbrev pub decreases-keep_stmts-loop-i : goal.decreases-keep_stmts-loop-i
decreases-keep_stmts-loop-i l = l.i
