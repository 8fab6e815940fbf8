use Rattle.std.proofs.Common.{ap, length}
use Rattle.flow_graph.proofs.Whole.{laid_out, marks_listed, built_well, built_graph}
use Rattle.flow_graph.proofs.builder.build.Goals as goal

pub stops_of-requires : goal.stops_of-requires
stops_of-requires c =
    marks_listed c.args.func.now c.in_ok-ops.ops.items c.as_slice.result.now c.in_ok-entry.entry c.body.ensures.formed
    (laid_out c.args.func.now c.new-slots.result.items c.add.new.slots.items c.lay.new.slots.items c.in_ok-ops.ops.items c.body.result.now c.in_ok-end.end
    c.in_ok-entry.entry c.new-slots.ensures.items
    c.in_ok-end.ensures.added c.body.ensures.body c.in_ok-entry.ensures.laid c.in_ok-entry.ensures.numbered c.in_ok-ops.ensures)
    c.as_slice.ensures.value

pub invariant_of-result : goal.invariant_of-result
invariant_of-result c =
    built_well c.args.func.now c.params.result (length c.vars.result.now) c.in_ok-entry.entry c.in_ok-ops.ops.items c.as_slice.result.now c.from_vec.result
    c.in_ok-stops.stops.items c.from_vec-2.result c.body.ensures.formed
    (laid_out c.args.func.now c.new-slots.result.items c.add.new.slots.items c.lay.new.slots.items c.in_ok-ops.ops.items c.body.result.now c.in_ok-end.end
    c.in_ok-entry.entry c.new-slots.ensures.items
    c.in_ok-end.ensures.added c.body.ensures.body c.in_ok-entry.ensures.laid c.in_ok-entry.ensures.numbered c.in_ok-ops.ensures)
    c.as_slice.ensures.value c.in_ok-stops.ensures c.params.ensures (ap length c.vars.ensures) c.from_vec.ensures c.from_vec-2.ensures

pub returns : goal.returns
returns c =
    built_graph c.args.func.now c.params.result (length c.vars.result.now) c.in_ok-entry.entry c.in_ok-ops.ops.items c.as_slice.result.now c.from_vec.result
    c.in_ok-stops.stops.items c.from_vec-2.result c.body.ensures.formed
    (laid_out c.args.func.now c.new-slots.result.items c.add.new.slots.items c.lay.new.slots.items c.in_ok-ops.ops.items c.body.result.now c.in_ok-end.end
    c.in_ok-entry.entry c.new-slots.ensures.items
    c.in_ok-end.ensures.added c.body.ensures.body c.in_ok-entry.ensures.laid c.in_ok-entry.ensures.numbered c.in_ok-ops.ensures)
    c.as_slice.ensures.value c.in_ok-stops.ensures c.params.ensures (ap length c.vars.ensures) c.from_vec.ensures c.from_vec-2.ensures
