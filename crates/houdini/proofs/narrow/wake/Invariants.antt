use Rattle.std.proofs.Common.{◌≡◌, vec_len}
use Rattle.houdini.proofs.narrow.wake.Given as goal

abbrev pub invariant-loop-i : goal.invariant-loop-i
invariant-loop-i l = vec_len l.waiting ≡ vec_len l.fn.waiting
