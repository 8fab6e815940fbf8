use Rattle.std.proofs.Common.{◌≡◌, ◌++◌, drop}
use Rattle.miners.specs.Entries.{entries_of}
use Rattle.miners.proofs.mining.add_entries.Given as goal

abbrev pub invariant-loop-accumulator : goal.invariant-loop-accumulator
invariant-loop-accumulator l =
    l.made ++ entries_of l.constants (drop l.accumulator-index l.nodes) ≡ l.initial.made ++ entries_of l.constants l.nodes
