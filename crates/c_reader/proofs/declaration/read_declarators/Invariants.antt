use Rattle.std.proofs.Common.{map, length}
use Rattle.c_ast.specs.RawView.{raw_declared_of}
use Rattle.c_reader.specs.ReadDeclarations.{declarator_at, listed_at}
use Rattle.c_reader.proofs.ListLoops.{ListedSoFar}
use Rattle.c_reader.proofs.declaration.read_declarators.Given as goal

-- Behind the declarators that are made so far come the others.
abbrev pub invariant-loop-made : goal.invariant-loop-made
invariant-loop-made l =
    ListedSoFar (declarator_at l.room) (map raw_declared_of l.made) l.others (listed_at (declarator_at l.room) l.tokens)

abbrev pub decreases-loop-made : goal.decreases-loop-made
decreases-loop-made l = length l.others
