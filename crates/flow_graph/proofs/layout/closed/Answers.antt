use Rattle.std.proofs.Common.{◌∙◌}
use Rattle.flow_graph.proofs.Closing.{closed_some, closed_other}
use Rattle.flow_graph.proofs.layout.closed.Goals as goal

pub loop-slot-preserved-in-Continue-1 : goal.loop-slot-preserved-in-Continue-1
loop-slot-preserved-in-Continue-1 c = c.in_ok-push.ensures.items
    ∙ closed_some c.loop-slot.yielded c.in-Some.slot _ c.in-Some-slot.op c.loop-slot.invariant c.in-Some-slot.is

pub loop-slot-preserved : goal.loop-slot-preserved
loop-slot-preserved c = closed_other c.loop-slot.yielded c.in-Some.slot _ c.loop-slot.invariant c.in_default.not-Some
