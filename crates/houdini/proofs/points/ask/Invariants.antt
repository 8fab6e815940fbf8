use Rattle.std.proofs.Common.{◌≤◌}
use Rattle.houdini.specs.Failures.{Marks}
use Rattle.houdini.proofs.points.ask.Given as goal

abbrev pub invariant-loop-failure : goal.invariant-loop-failure
invariant-loop-failure g l = record {
  marks : Marks l.start l.failures l.fn.marks l.marks;
  later : g.W.Watch.stops l.fn.watch ≤ g.W.Watch.stops l.watch;
}
