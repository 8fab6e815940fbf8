use Rattle.std.proofs.Common.{◌≡◌, length}
use Rattle.c_reader.specs.ReadUnits.{unqualified}
use Rattle.c_reader.proofs.unit.unqualified.Given as goal

-- What is left has the same tokens behind its qualifiers.
abbrev pub invariant-loop-after : goal.invariant-loop-after
invariant-loop-after l = unqualified l.others ≡ unqualified l.tokens

abbrev pub decreases-loop-after : goal.decreases-loop-after
decreases-loop-after l = length l.others
