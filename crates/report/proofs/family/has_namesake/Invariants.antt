-- No variable so far is another one with the name.
use Rattle.std.proofs.Common.{◌≡◌, drop}
use Rattle.report.specs.Families.{has_namesake}
use Rattle.report.proofs.family.has_namesake.Given as goal

abbrev pub invariant-loop-number : goal.invariant-loop-number
invariant-loop-number l = has_namesake l.x l.name 0 l.vars ≡ has_namesake l.x l.name l.number (drop l.number l.vars)
