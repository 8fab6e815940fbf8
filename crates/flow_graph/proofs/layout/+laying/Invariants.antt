use Rattle.std.proofs.Common.{◌≡◌, ◌≤◌, ◌<◌, ◌^◌, length, drop}
use Rattle.c_ast.specs.View.{statements_of}
use Rattle.flow_graph.specs.Layout.{layout, slots_of, lay}
use Rattle.flow_graph.proofs.layout.+laying.Given as goal

abbrev pub invariant-lay-loop-i : goal.invariant-lay-loop-i
invariant-lay-loop-i l = record {
  numbered : length l.slots.items < 2 ^ 32;
  within : l.i ≤ length l.stmts;
  laid : layout (slots_of l.slots.items) l.node ≡ lay (statements_of (drop l.i l.stmts)) (slots_of l.fn.slots.items) l.next l.out l.again;
}

abbrev pub decreases-lay-loop-i : goal.decreases-lay-loop-i
decreases-lay-loop-i l = l.i
