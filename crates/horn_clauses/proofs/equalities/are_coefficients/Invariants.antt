use Rattle.std.proofs.Common.{◌≡◌, ◌+◌, ◌++◌, take, length, pos, negsuc}
use Rattle.lin_terms.specs.Vectors.{only_at}
use Rattle.horn_clauses.proofs.equalities.are_coefficients.Given as goal

abbrev pub invariant-loop-j : goal.invariant-loop-j
invariant-loop-j l = record {
  long : length l.coefs ≡ l.side + l.side;
  same : take l.j l.coefs ≡ take l.j (only_at l.side l.i (pos 1) ++ only_at l.side l.i (negsuc 0));
}
