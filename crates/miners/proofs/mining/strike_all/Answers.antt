use Rattle.std.proofs.Common.{◌<◌, ◌≤◌, length, arith}
use Rattle.walks.specs.Walk.{spot_at}
use Rattle.miners.specs.Gathered.{struck_nodes}
use Rattle.miners.proofs.Gathering.{fold_step, fold_end}
use Rattle.miners.proofs.mining.strike_all.Goals as goal

pub loop-at-preserved : goal.loop-at-preserved
loop-at-preserved c = λ constants.
    let below : c.loop-at.at-index < length c.args.positions.now = omega (arith, c.loop-at-test.true) in
    fold_step struck_nodes (spot_at c.args.pair.now) c.args.positions.now c.loop-at.at-index _ _ _ _ below
    (c.strike_nodes.ensures constants) (c.loop-at.invariant constants)

pub returns : goal.returns
returns c = λ constants.
    let past : length c.args.positions.now ≤ c.loop-at.at-index = omega (arith, c.loop-at-test.false) in
    fold_end struck_nodes (spot_at c.args.pair.now) c.args.positions.now c.loop-at.at-index _ _ past (c.loop-at.invariant constants)
