use Rattle.std.proofs.Common.{ℕ, ◌+◌, ◌<◌}
use Rattle.c_tokens.specs.Gaps.{IsEndAt}
use Rattle.c_tokens.proofs.gaps.end_of.Given as goal

abbrev pub invariant-loop-i : goal.invariant-loop-i
invariant-loop-i l = (index : ℕ) → index + 1 < l.i → ¬ IsEndAt l.body index
