use Rattle.std.proofs.Common.{◌≡◌, length}
use Rattle.c_ast.specs.Step.{past_tail, to_tail}
use Rattle.c_run.specs.Shown.{work_of}
use Rattle.c_run.proofs.interpreter.cut.Given as goal

abbrev pub invariant-loop-item : goal.invariant-loop-item
invariant-loop-item l = record {
  past : past_tail (work_of l.initial.work.items) ≡ past_tail (work_of l.work.items);
  to : to_tail (work_of l.initial.work.items) ≡ to_tail (work_of l.work.items);
}

abbrev pub decreases-loop-item : goal.decreases-loop-item
decreases-loop-item l = length l.work.items
