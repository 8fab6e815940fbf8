use Rattle.houdini.specs.Failures.{Marks}
use Rattle.houdini.proofs.points.mark_at.Given as goal

abbrev pub invariant-loop-failure : goal.invariant-loop-failure
invariant-loop-failure l = Marks l.start l.failures l.fn.marks l.marks
