use Rattle.std.proofs.Common.{◌≡◌, ◌++◌, ◌-◌}
use Rattle.lin_terms.specs.Vectors.{scaled}
use Rattle.elimination.specs.Sparse.{table, IsRising}
use Rattle.elimination.proofs.Merging.{AreFittingEntries}
use Rattle.elimination.proofs.multipliers.scaled_list.Given as goal

abbrev pub invariant-loop-row : goal.invariant-loop-row
invariant-loop-row l = record {
  all : l.made.items ++ scaled l.times (table l.row (l.count - l.row) l.left) ≡ scaled l.times (table 0 l.count l.entries);
  rising : IsRising l.row l.count l.left;
  fits : AreFittingEntries l.left;
}
