use Rattle.std.proofs.Common.{◌≡◌, List, drop}
use Rattle.std.specs.Prelude.{ℤ}
use Rattle.miners.specs.Gathered.{is_among}
use Rattle.miners.specs.Entries.{entries_of}
use Rattle.miners.proofs.mining.is_among.Given as goal

abbrev pub invariant-loop-accumulator : goal.invariant-loop-accumulator
invariant-loop-accumulator l = (constants : List ℤ)
    → is_among (entries_of constants (drop l.accumulator-index l.nodes)) l.node ≡ is_among (entries_of constants l.nodes) l.node
