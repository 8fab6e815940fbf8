use Rattle.std.proofs.Common.{length}
use Rattle.c_reader.specs.ReadDeclarations.{parameter_at, listed_at}
use Rattle.c_reader.proofs.ListLoops.{ListedSoFar}
use Rattle.c_reader.proofs.declaration.read_listed.Given as goal

-- Behind the parameters that are made so far come the others.
abbrev pub invariant-loop-made : goal.invariant-loop-made
invariant-loop-made l = ListedSoFar parameter_at l.made l.others (listed_at parameter_at l.tokens)

abbrev pub decreases-loop-made : goal.decreases-loop-made
decreases-loop-made l = length l.others
