use Rattle.std.proofs.Common.{◌≡◌, ℕ, map, take, get_or, pos}
use Rattle.c_run.proofs.interpreter.event.Given as goal

abbrev pub invariant-loop-x : goal.invariant-loop-x
invariant-loop-x l = l.values ≡ map (λ (y : ℕ). get_or l.environment y (pos 0)) (take l.x-index l.x-items)
