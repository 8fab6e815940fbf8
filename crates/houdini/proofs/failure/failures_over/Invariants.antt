use Rattle.std.proofs.Common.{◌≡◌, ◌++◌, drop}
use Rattle.houdini.specs.Failures.{failures_from}
use Rattle.houdini.proofs.failure.failures_over.Given as goal

abbrev pub invariant-loop-i : goal.invariant-loop-i
invariant-loop-i l = l.made.items ++ failures_from l.end l.i (drop l.i l.atoms) ≡ failures_from l.end 0 l.atoms
