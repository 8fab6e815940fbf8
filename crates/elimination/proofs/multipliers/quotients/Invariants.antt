use Rattle.std.proofs.Common.{◌≡◌, take}
use Rattle.elimination.specs.Sparse.{quotients_of}
use Rattle.elimination.proofs.multipliers.quotients.Given as goal

abbrev pub invariant-loop-entry : goal.invariant-loop-entry
invariant-loop-entry l = l.made.items ≡ quotients_of l.divisor (take l.entry-index l.entries)
