use Rattle.std.proofs.Common.{◌≡◌, ◌*◌, ◌^◌, ◌≤◌, ◌+ℤ◌, drop}
use Rattle.std.specs.Prelude.{unsigned_abs}
use Rattle.lin_terms.specs.Form.{entries_at}
use Rattle.lin_terms.specs.Vectors.{dot}
use Rattle.lin_terms.proofs.over.coef_over.Given as goal

abbrev pub invariant-loop-i : goal.invariant-loop-i
invariant-loop-i l = record {
  so_far : l.sum +ℤ dot (drop l.i l.coefs) (drop l.i (entries_at l.j l.at)) ≡ dot l.coefs (entries_at l.j l.at);
  bound : unsigned_abs l.sum ≤ l.i * 2 ^ 113;
}
