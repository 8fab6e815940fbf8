use Rattle.std.proofs.Common.{◌∙◌, sym}
use Rattle.walks.specs.Walk.{spot_at}
use Rattle.miners.proofs.Gathering.{struck_here, stays_here, narrow_first, narrow_second}
use Rattle.miners.proofs.mining.strike_at.Goals as goal

pub returns-then-not-is_same : goal.returns-then-not-is_same
returns-then-not-is_same c = λ constants.
    let other = rw (c.node.ensures, c.node_at.ensures) at (sym c.is_same.ensures ∙ c.if-not-is_same.true) in
    stays_here constants c.args.accumulator.now (spot_at c.args.pair.now c.args.position) other

pub strike-requires-clause-first : goal.strike-requires-clause-first
strike-requires-clause-first c = narrow_first c.args.pair.now c.args.position _ c.requires c.first_values.ensures

pub strike-requires-clause-second : goal.strike-requires-clause-second
strike-requires-clause-second c = narrow_second c.args.pair.now c.args.position _ c.requires c.second_values.ensures

pub returns : goal.returns
returns c = λ constants.
    let here = rw (c.node.ensures, c.node_at.ensures) at (sym c.is_same.ensures ∙ c.if-not-is_same.false) in
    let left = rw (c.first_values.ensures, c.second_values.ensures) at (c.strike.ensures.left constants) in
    struck_here constants c.args.accumulator.now c.strike.new.self (spot_at c.args.pair.now c.args.position) here c.strike.ensures.node left
