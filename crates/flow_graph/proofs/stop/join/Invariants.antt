use Rattle.std.proofs.Common.{◌≡◌, ◌++◌, map}
use Rattle.flow_graph.specs.Stops.{AreKnown, joined}
use Rattle.flow_graph.proofs.stop.join.Given as goal

abbrev pub invariant-loop-mark : goal.invariant-loop-mark
invariant-loop-mark l = record {
  known : AreKnown l.nexts l.mark-iterator;
  joined : l.stops.items ++ map (joined l.nexts) l.mark-iterator ≡ map (joined l.nexts) l.fn.scopes.entries;
}
