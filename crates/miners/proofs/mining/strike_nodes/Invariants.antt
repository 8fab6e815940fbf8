use Rattle.std.proofs.Common.{◌≡◌, ◌++◌, List, map, take, drop}
use Rattle.std.specs.Prelude.{ℤ}
use Rattle.walks.specs.Walk.{spot_at}
use Rattle.miners.specs.Gathered.{struck_entry}
use Rattle.miners.specs.Entries.{entries_of}
use Rattle.miners.proofs.mining.strike_nodes.Given as goal

abbrev pub invariant-loop-accumulator : goal.invariant-loop-accumulator
invariant-loop-accumulator l = (constants : List ℤ)
    → entries_of constants l.nodes
    ≡ map (struck_entry (spot_at l.pair l.position)) (entries_of constants (take l.accumulator-index l.initial.nodes))
    ++ entries_of constants (drop l.accumulator-index l.initial.nodes)
