use Rattle.std.proofs.Common.{◌≤◌}
use Rattle.houdini.specs.Linear.{Narrows}
use Rattle.houdini.specs.Striking.{count_atoms}
use Rattle.houdini.proofs.search.greatest.Given as goal

abbrev pub invariant-loop-alloc : goal.invariant-loop-alloc
invariant-loop-alloc g l = record {
  narrows : Narrows l.product l.fn.candidates l.left;
  later : g.W.Watch.stops l.fn.watch ≤ g.W.Watch.stops l.watch;
}

abbrev pub decreases-loop-alloc : goal.decreases-loop-alloc
decreases-loop-alloc g l = count_atoms l.left.nodes
