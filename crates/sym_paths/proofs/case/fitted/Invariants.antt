use Rattle.std.proofs.Common.{◌≡◌, ◌++◌, ◌≤◌, take, replicate}
use Rattle.std.specs.Prelude.{pos}
use Rattle.sym_paths.proofs.case.fitted.Given as goal

abbrev pub invariant-loop-place : goal.invariant-loop-place
invariant-loop-place l = (l.made.items ≡ take l.place (l.numbers ++ replicate l.count (pos 0))) × (l.place ≤ l.count)
