use Rattle.std.proofs.Common.{◌≡◌, ◌++◌, ◌-◌, ◌≤◌, All, length}
use Rattle.sym_paths.specs.Cases.{start_forms}
use Rattle.sym_paths.specs.Arrivals.{HasRoom}
use Rattle.sym_paths.proofs.Starting.{to_come}
use Rattle.sym_paths.proofs.start.start_forms.Given as goal

-- the forms so far, and then those of the variables to come
abbrev pub invariant-loop-x : goal.invariant-loop-x
invariant-loop-x l =
    (l.forms.items ++ to_come l.room l.variables l.x (l.vars - l.x) l.met ≡ start_forms l.room l.variables l.vars)
    × All (HasRoom l.room) l.forms.items × (l.met ≤ length l.variables) × (l.x ≤ l.vars)
