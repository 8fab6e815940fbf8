use Rattle.std.proofs.Common.{◌∙◌, sym}
use Rattle.walks.specs.Walk.{spot_at}
use Rattle.miners.proofs.Gathering.{had_node, new_node, narrow_first, narrow_second}
use Rattle.miners.proofs.mining.add_node.Goals as goal

pub returns-then-is_had : goal.returns-then-is_had
returns-then-is_had c = λ constants.
    let had = rw (c.as_slice.ensures.value, c.node_at-node.ensures) at (sym (c.is_had.ensures constants) ∙ c.if-is_had.true) in
    had_node constants c.args.met.now c.args.made.now.items (spot_at c.args.pair.now c.args.position) had

pub new-requires-clause-first : goal.new-requires-clause-first
new-requires-clause-first c = narrow_first c.args.pair.now c.args.position _ c.requires c.first_values-first.ensures

pub new-requires-clause-second : goal.new-requires-clause-second
new-requires-clause-second c = narrow_second c.args.pair.now c.args.position _ c.requires c.second_values-second.ensures

pub returns : goal.returns
returns c = λ constants.
    let had = rw (c.as_slice.ensures.value, c.node_at-node.ensures) at (sym (c.is_had.ensures constants) ∙ c.if-is_had.false) in
    let left = rw (c.first_values-first.ensures, c.second_values-second.ensures) at (c.in_ok-new.ensures.left constants) in
    rw c.in_ok-push.ensures.items (new_node constants c.args.met.now c.args.made.now.items (spot_at c.args.pair.now c.args.position) c.in_ok-new.field-0 had
    (c.in_ok-new.ensures.node ∙ c.node_at-node.ensures) left)
