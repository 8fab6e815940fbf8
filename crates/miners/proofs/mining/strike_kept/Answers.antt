use Rattle.std.proofs.Common.{◌∙◌, ap, map, fold}
use Rattle.std.proofs.lemmas.List.{with_items_is}
use Rattle.walks.specs.Walk.{spot_at}
use Rattle.miners.specs.Gathered.{struck_nodes}
use Rattle.miners.specs.Entries.{entries_of}
use Rattle.miners.proofs.Gathering.{length_struck}
use Rattle.miners.proofs.mining.strike_kept.Goals as goal

pub returns : goal.returns
returns c = λ constants.
    let size = length_struck constants c.strike_all.new.nodes c.as_mut_slice.result.now (map (spot_at c.args.pair.now) c.args.positions.now)
    (c.strike_all.ensures constants) ∙ c.as_mut_slice.ensures.len in
    ap (entries_of constants) (with_items_is c.args.nodes.now c.strike_all.new.nodes size) ∙ c.strike_all.ensures constants
    ∙ ap (λ nodes. fold struck_nodes (entries_of constants nodes) (map (spot_at c.args.pair.now) c.args.positions.now)) c.as_mut_slice.ensures.value
