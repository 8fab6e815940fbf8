use Rattle.flow_graph.specs.Stops.{AreNexts}
use Rattle.flow_graph.proofs.stop.nexts_of.Given as goal

abbrev pub invariant-loop-op : goal.invariant-loop-op
invariant-loop-op l = AreNexts l.ops l.op-index l.nexts
