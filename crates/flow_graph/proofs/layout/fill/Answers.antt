use Rattle.flow_graph.proofs.Growing.{fill_none, fill_some}
use Rattle.flow_graph.proofs.layout.fill.Goals as goal

pub returns-in-None-clause-filled : goal.returns-in-None-clause-filled
returns-in-None-clause-filled c = fill_none c.args.mark.now c.args.slots.now.items c.args.head c.args.test c.in-None.is

pub returns-in_ok-next-in-Some-clause-filled : goal.returns-in_ok-next-in-Some-clause-filled
returns-in_ok-next-in-Some-clause-filled c = fill_some c.args.mark.now c.in-Some.mark c.args.slots.now.items c.add.new.slots.items c.args.head
    c.in_ok-next-in-Some.next c.args.test c.in-Some.is c.in_ok-next-in-Some.ensures.added
