use Rattle.std.proofs.Common.{◌≡◌, ◌*◌, ◌^◌, ◌≤◌, ◌+ℤ◌, drop}
use Rattle.std.specs.Prelude.{unsigned_abs}
use Rattle.lin_terms.specs.Vectors.{dot}
use Rattle.lin_terms.proofs.point.dot.Given as goal

abbrev pub invariant-loop-i : goal.invariant-loop-i
invariant-loop-i l = record {
  so_far : l.sum +ℤ dot (drop l.i l.entries) (drop l.i l.numbers) ≡ dot l.entries l.numbers;
  bound : unsigned_abs l.sum ≤ l.i * 2 ^ 116;
}
