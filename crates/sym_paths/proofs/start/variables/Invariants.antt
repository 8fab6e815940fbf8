use Rattle.std.proofs.Common.{◌≡◌, ◌++◌, ◌-◌, ◌≤◌, All}
use Rattle.sym_paths.specs.Cases.{variables_from}
use Rattle.sym_paths.specs.Arrivals.{HasRoom}
use Rattle.sym_paths.proofs.start.variables.Given as goal

-- the forms so far, and then those that are left to make
abbrev pub invariant-loop-number : goal.invariant-loop-number
invariant-loop-number l =
    (l.forms.items ++ variables_from l.room l.number (l.count - l.number) ≡ variables_from l.room 0 l.count)
    × All (HasRoom l.room) l.forms.items × (l.number ≤ l.count)
