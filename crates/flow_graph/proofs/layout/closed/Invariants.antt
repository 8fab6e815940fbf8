use Rattle.std.proofs.Common.{◌≡◌, filter_map}
use Rattle.flow_graph.proofs.layout.closed.Given as goal

abbrev pub invariant-loop-slot : goal.invariant-loop-slot
invariant-loop-slot l = l.ops.items ≡ filter_map (λ slot. slot) l.yielded
