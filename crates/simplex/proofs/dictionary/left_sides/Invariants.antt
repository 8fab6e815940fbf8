use Rattle.std.proofs.Common.{◌≡◌, vec_len}
use Rattle.simplex.proofs.dictionary.left_sides.Given as goal

abbrev pub invariant-loop-number : goal.invariant-loop-number
invariant-loop-number l = vec_len l.sides ≡ l.number
