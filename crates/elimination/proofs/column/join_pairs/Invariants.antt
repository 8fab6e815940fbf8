use Rattle.std.proofs.Common.{take, Ok}
use Rattle.elimination.specs.Column.{pairs}
use Rattle.elimination.specs.Outcome.{Joins}
use Rattle.elimination.proofs.column.join_pairs.Given as goal

abbrev pub invariant-loop-lower : goal.invariant-loop-lower
invariant-loop-lower l = Joins l.initial.rows (pairs l.j (take l.lower-index l.lowers) l.uppers) l.rows (Ok tt)
