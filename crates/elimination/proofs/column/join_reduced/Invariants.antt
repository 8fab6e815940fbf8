use Rattle.std.proofs.Common.{map, Ok}
use Rattle.elimination.specs.Column.{reduced}
use Rattle.elimination.specs.Outcome.{Joins}
use Rattle.elimination.proofs.column.join_reduced.Given as goal

abbrev pub invariant-loop-row : goal.invariant-loop-row
invariant-loop-row l = Joins l.initial.rows (map (reduced l.j l.pivot) l.yielded) l.rows (Ok tt)
