use Rattle.std.proofs.Common.{◌≡◌, take, length}
use Rattle.horn_clauses.specs.Equalities.{equal_parameters}
use Rattle.horn_clauses.proofs.equalities.are_equal_parameters.Given as goal

abbrev pub invariant-loop-i : goal.invariant-loop-i
invariant-loop-i l = record {
  long : length l.atoms ≡ l.count;
  same : take l.i l.atoms ≡ take l.i (equal_parameters l.count);
}
