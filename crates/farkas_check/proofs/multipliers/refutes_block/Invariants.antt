use Rattle.std.proofs.Common.{◌≡◌, ◌↔◌, ℕ, ◌+◌, ◌<◌, ◌≤◌, ◌^◌, ◌*◌, drop, get_or, pos}
use Rattle.std.specs.Prelude.{◌+ℤ◌, unsigned_abs}
use Rattle.std.specs.List.{AllZip}
use Rattle.lin_terms.specs.Vectors.{dot}
use Rattle.farkas_check.specs.Refutes.{column, constants, MayMultiply}
use Rattle.farkas_check.proofs.multipliers.refutes_block.Given as goal

abbrev pub invariant-loop-i : goal.invariant-loop-i
invariant-loop-i g l = record {
  signs : AllZip MayMultiply (g.R.Rows.list l.rows) l.multipliers ↔ AllZip MayMultiply (drop l.i (g.R.Rows.list l.rows)) (drop l.i l.multipliers);
  columns : (k : ℕ) → k < 32 → get_or l.columns k (pos 0) +ℤ dot (drop l.i l.multipliers) (drop l.i (column (l.first + k) (g.R.Rows.list l.rows)))
      ≡ dot l.multipliers (column (l.first + k) (g.R.Rows.list l.rows));
  columns_bound : (k : ℕ) → k < 32 → unsigned_abs (get_or l.columns k (pos 0)) ≤ l.i * 2 ^ 112;
  constant : l.constant +ℤ dot (drop l.i l.multipliers) (drop l.i (constants (g.R.Rows.list l.rows))) ≡ dot l.multipliers (constants (g.R.Rows.list l.rows));
  constant_bound : unsigned_abs l.constant ≤ l.i * 2 ^ 112;
}
