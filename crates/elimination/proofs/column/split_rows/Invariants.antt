use Rattle.std.proofs.Common.{◌≡◌}
use Rattle.elimination.specs.Column.{without, lower_bounds, upper_bounds}
use Rattle.elimination.proofs.column.split_rows.Given as goal

abbrev pub invariant-loop-row : goal.invariant-loop-row
invariant-loop-row l = record {
  without : l.made.without.items ≡ without l.j l.yielded;
  lower : l.made.lower.items ≡ lower_bounds l.j l.yielded;
  upper : l.made.upper.items ≡ upper_bounds l.j l.yielded;
}
