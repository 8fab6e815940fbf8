use Rattle.std.proofs.Common.{◌≡◌, List, map, fold, drop}
use Rattle.std.specs.Prelude.{ℤ}
use Rattle.walks.specs.Walk.{spot_at}
use Rattle.miners.specs.Gathered.{struck_nodes}
use Rattle.miners.specs.Entries.{entries_of}
use Rattle.miners.proofs.mining.strike_all.Given as goal

abbrev pub invariant-loop-at : goal.invariant-loop-at
invariant-loop-at l = (constants : List ℤ)
    → fold struck_nodes (entries_of constants l.nodes) (map (spot_at l.pair) (drop l.at-index l.positions))
    ≡ fold struck_nodes (entries_of constants l.initial.nodes) (map (spot_at l.pair) l.positions)
