use Rattle.std.proofs.Common.{map, take, Ok}
use Rattle.elimination.specs.Column.{paired}
use Rattle.elimination.specs.Outcome.{Joins}
use Rattle.elimination.proofs.column.join_pairs_of.Given as goal

abbrev pub invariant-loop-upper : goal.invariant-loop-upper
invariant-loop-upper l = Joins l.initial.rows (map (paired l.j l.lower) (take l.upper-index l.uppers)) l.rows (Ok tt)
