use Rattle.std.proofs.Common.{◌≡◌, map, take}
use Rattle.pool_core.proofs.Numbered.{numbers, first_front}
use Rattle.pool_core.proofs.lives.Lives.new.Given as goal

abbrev pub invariant-loop-alignment : goal.invariant-loop-alignment
invariant-loop-alignment l = l.fronts.items ≡ map (first_front l.subject) (take l.alignment-index numbers)
