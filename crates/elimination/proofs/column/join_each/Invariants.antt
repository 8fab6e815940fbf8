use Rattle.std.proofs.Common.{Ok}
use Rattle.elimination.specs.Outcome.{Joins}
use Rattle.elimination.proofs.column.join_each.Given as goal

abbrev pub invariant-loop-row : goal.invariant-loop-row
invariant-loop-row l = Joins l.initial.rows (l.yielded) l.rows (Ok tt)
