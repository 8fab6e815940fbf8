use Rattle.std.proofs.Common.{◌<◌, length, arith}
use Rattle.walks.specs.Walk.{spot_at}
use Rattle.miners.specs.Gathered.{struck_entry}
use Rattle.miners.specs.Entries.{entry_of}
use Rattle.miners.proofs.Gathering.{struck_in_place}
use Rattle.miners.proofs.mining.strike_nodes.Goals as goal

pub loop-accumulator-preserved : goal.loop-accumulator-preserved
loop-accumulator-preserved c = λ constants.
    let below : c.loop-accumulator.accumulator-index < length c.args.nodes.now = omega (arith, c.loop-accumulator-test.true) in
    struck_in_place (entry_of constants) (struck_entry (spot_at c.args.pair.now c.args.position)) c.args.nodes.now c.loop-accumulator.nodes
    c.loop-accumulator.accumulator-index c.accumulator-item.result c.strike_at.new.accumulator below (c.loop-accumulator.invariant constants)
    (c.strike_at.ensures constants)
