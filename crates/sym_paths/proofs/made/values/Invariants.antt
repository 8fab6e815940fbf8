use Rattle.std.proofs.Common.{◌≡◌, map, ◌++◌, All}
use Rattle.sym_paths.specs.Symbolic.{as_value}
use Rattle.sym_paths.specs.Arrivals.{answer_of, made_of, MadeHasRoom}
use Rattle.sym_paths.proofs.made.values.Given as goal

abbrev pub invariant-loop-test : goal.invariant-loop-test
invariant-loop-test l = record {
  made : map made_of l.made.items ++ as_value l.room (map (answer_of l.columns) l.test-iterator.rest.items)
      ≡ as_value l.room (map (answer_of l.columns) l.fn.tests.items);
  room : All (MadeHasRoom l.room) l.made.items;
}
