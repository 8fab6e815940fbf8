use Rattle.std.proofs.Common.{◌≡◌, ◌++◌, List, map, fold, drop}
use Rattle.std.specs.Prelude.{ℤ}
use Rattle.walks.specs.Walk.{spot_at}
use Rattle.miners.specs.Gathered.{with_node}
use Rattle.miners.specs.Entries.{entries_of}
use Rattle.miners.proofs.mining.new_nodes.Given as goal

abbrev pub invariant-loop-at : goal.invariant-loop-at
invariant-loop-at l = (constants : List ℤ)
    → fold (with_node constants) (entries_of constants l.met ++ entries_of constants l.made.items)
    (map (spot_at l.pair) (drop l.at-index l.positions))
    ≡ fold (with_node constants) (entries_of constants l.met) (map (spot_at l.pair) l.positions)
