use Rattle.std.proofs.Common.{◌≡◌, vec_len}
use Rattle.houdini.proofs.narrow.no_points.Given as goal

abbrev pub invariant-loop : goal.invariant-loop
invariant-loop l = vec_len l.made ≡ l.counter
