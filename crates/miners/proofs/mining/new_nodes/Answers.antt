use Rattle.std.proofs.Common.{◌<◌, ◌≤◌, length, arith, refl}
use Rattle.std.proofs.lemmas.List.{append-nil}
use Rattle.walks.specs.Walk.{spot_at}
use Rattle.miners.specs.Gathered.{with_node}
use Rattle.miners.specs.Entries.{entries_of}
use Rattle.miners.proofs.Gathering.{fold_step, fold_end}
use Rattle.miners.proofs.mining.new_nodes.Goals as goal

pub loop-at-init : goal.loop-at-init
loop-at-init c = λ constants. rw (c.new-made.ensures.items, append-nil (entries_of constants c.args.met.now)) refl

pub loop-at-preserved : goal.loop-at-preserved
loop-at-preserved c = λ constants.
    let below : c.loop-at.at-index < length c.args.positions.now = omega (arith, c.loop-at-test.true) in
    fold_step (with_node constants) (spot_at c.args.pair.now) c.args.positions.now c.loop-at.at-index _ _ _ _ below
    (c.in_ok-add_node.ensures constants) (c.loop-at.invariant constants)

pub returns : goal.returns
returns c = λ constants.
    let past : length c.args.positions.now ≤ c.loop-at.at-index = omega (arith, c.loop-at-test.false) in
    fold_end (with_node constants) (spot_at c.args.pair.now) c.args.positions.now c.loop-at.at-index _ _ past (c.loop-at.invariant constants)
