-- The labels so far, and then those of what is left, are all.
use Rattle.std.proofs.Common.{◌≡◌, ◌++◌, map, string_bytes, drop}
use Rattle.report.specs.Families.{label}
use Rattle.report.proofs.family.push_variables.Given as goal

abbrev pub invariant-loop-x : goal.invariant-loop-x
invariant-loop-x l = map string_bytes l.labels.items ++ map (label l.side l.vars) (drop l.x-index l.variables)
    ≡ map string_bytes l.fn.labels.items ++ map (label l.side l.vars) l.variables
