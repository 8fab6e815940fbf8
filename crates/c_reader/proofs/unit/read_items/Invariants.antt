use Rattle.std.proofs.Common.{map, length}
use Rattle.c_ast.specs.RawView.{raw_function_of}
use Rattle.c_reader.specs.ReadUnits.{unit_at}
use Rattle.c_reader.proofs.UnitLoop.{ItemsSoFar}
use Rattle.c_reader.proofs.unit.read_items.Given as goal

-- Behind the functions that are made so far come the others.
abbrev pub invariant-loop-others : goal.invariant-loop-others
invariant-loop-others l = ItemsSoFar l.room (map raw_function_of l.funcs) l.others (unit_at l.room l.tokens)

abbrev pub decreases-loop-others : goal.decreases-loop-others
decreases-loop-others l = length l.others
