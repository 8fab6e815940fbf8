use Rattle.std.proofs.Common.{◌≡◌, ℕ, ◌<◌, ◌*◌, pos}
use Rattle.std.specs.Prelude.{negsuc, ◌≤ℤ◌}
use Rattle.std.specs.List.{AllZip}
use Rattle.lin_terms.specs.Vectors.{dot}
use Rattle.farkas_check.specs.Refutes.{column, constants, MayMultiply}
use Rattle.farkas_check.proofs.multipliers.refutes_of.Given as goal

abbrev pub invariant-loop-walk : goal.invariant-loop-walk
invariant-loop-walk g l = record {
  signs : 0 < l.walk → AllZip MayMultiply (g.R.Rows.list l.rows) l.multipliers;
  negative_constant : 0 < l.walk → dot l.multipliers (constants (g.R.Rows.list l.rows)) ≤ℤ negsuc 0;
  no_variable : (j : ℕ) → j < l.walk * 32 → dot l.multipliers (column j (g.R.Rows.list l.rows)) ≡ pos 0;
}
