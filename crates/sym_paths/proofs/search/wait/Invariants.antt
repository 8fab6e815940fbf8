use Rattle.std.proofs.Common.{◌≡◌, ◌++◌, reverse, map, length}
use Rattle.sym_paths.specs.Waiting.{waiting}
use Rattle.sym_paths.proofs.search.wait.Given as goal

abbrev pub invariant-loop-entry : goal.invariant-loop-entry
invariant-loop-entry l = map (waiting l.kept) l.moves.items ++ reverse l.work.items
    ≡ map (waiting l.kept) l.initial.moves.items ++ reverse l.initial.work.items

abbrev pub decreases-loop-entry : goal.decreases-loop-entry
decreases-loop-entry l = length l.moves.items
