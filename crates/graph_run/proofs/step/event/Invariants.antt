use Rattle.std.proofs.Common.{◌≡◌, take}
use Rattle.flow_graph.specs.Run.{values_of}
use Rattle.graph_run.proofs.step.event.Given as goal

abbrev pub invariant-loop-x : goal.invariant-loop-x
invariant-loop-x l = l.values ≡ values_of (take l.x-index l.x-items) l.environment
