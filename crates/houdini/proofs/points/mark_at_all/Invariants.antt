use Rattle.houdini.specs.Failures.{Marks}
use Rattle.houdini.proofs.points.mark_at_all.Given as goal

abbrev pub invariant-loop-point : goal.invariant-loop-point
invariant-loop-point l = Marks l.start l.failures l.fn.marks l.marks
