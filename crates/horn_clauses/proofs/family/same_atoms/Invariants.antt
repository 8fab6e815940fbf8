use Rattle.std.proofs.Common.{◌≡◌, take, length}
use Rattle.horn_clauses.proofs.family.same_atoms.Given as goal

abbrev pub invariant-loop-i : goal.invariant-loop-i
invariant-loop-i l = record {
  lengths : length l.first ≡ length l.second;
  same : take l.i l.first ≡ take l.i l.second;
}
