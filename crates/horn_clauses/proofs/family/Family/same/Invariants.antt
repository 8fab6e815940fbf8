use Rattle.std.proofs.Common.{◌≡◌, take, length}
use Rattle.horn_clauses.proofs.family.Family.same.Given as goal

abbrev pub invariant-loop-i : goal.invariant-loop-i
invariant-loop-i l = record {
  lengths : length l.self.nodes ≡ length l.other.nodes;
  same : take l.i l.self.nodes ≡ take l.i l.other.nodes;
}
