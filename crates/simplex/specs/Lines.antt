-- The line that an answer names is a line of the dictionary.
use Rattle.std.specs.Prelude.{ℕ, ◌<◌}
use Rattle.simplex.specs.declared.feasible.Feasibility.{Feasibility}
use Rattle.simplex.specs.declared.feasible.Feasibility.TheVariants.{Feasible, Infeasible}
use Rattle.simplex.specs.declared.ascent.Leaving.{Leaving}
use Rattle.simplex.specs.declared.ascent.Leaving.TheVariants.{Line, Objective}

-- The line that shows that no point meets the rows is one of so many lines.
abbrev pub IsWithin : ℕ → Feasibility → Type 0
IsWithin count Feasible = Unit {0}
IsWithin count (Infeasible number) = number < count

-- The line whose basic variable leaves is one of so many lines.
abbrev pub LeavesWithin : ℕ → Leaving → Type 0
LeavesWithin count (Line number) = number < count
LeavesWithin count Objective = Unit {0}
