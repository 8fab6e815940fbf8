use Rattle.std.proofs.Common.{◌≡◌, ℕ, ◌+◌, ◌<◌, ◌≤◌, get_or, pos}
use Rattle.std.specs.Prelude.{◌+ℤ◌, ◌*ℤ◌}
use Rattle.farkas_check.specs.Refutes.{column}
use Rattle.farkas_check.proofs.sums.add_row.Given as goal

abbrev pub invariant-loop-k : goal.invariant-loop-k
invariant-loop-k g l = record {
  added : (k : ℕ) → k < l.k → get_or l.sums k (pos 0)
      ≡ get_or l.initial.sums k (pos 0) +ℤ (l.multiplier *ℤ get_or (column (l.first + k) (g.R.Rows.list l.rows)) l.i (pos 0));
  left : (k : ℕ) → l.k ≤ k → get_or l.sums k (pos 0) ≡ get_or l.initial.sums k (pos 0);
}
