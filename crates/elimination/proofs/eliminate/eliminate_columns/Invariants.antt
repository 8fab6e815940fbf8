use Rattle.std.proofs.Common.{◌≡◌, ◌-◌, Ok}
use Rattle.elimination.specs.Eliminated.{eliminate}
use Rattle.elimination.proofs.eliminate.eliminate_columns.Given as goal

abbrev pub invariant-loop-j : goal.invariant-loop-j
invariant-loop-j l = eliminate l.cap (l.columns - l.j) l.j (Ok l.rows.items) ≡ eliminate l.cap l.columns 0 (Ok l.initial.rows.items)
