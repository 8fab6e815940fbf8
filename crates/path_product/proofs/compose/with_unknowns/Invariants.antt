use Rattle.std.proofs.Common.{◌≡◌, ◌+◌, ◌-◌, ◌++◌}
use Rattle.sym_paths.specs.Cases.{variables_from}
use Rattle.path_product.proofs.compose.with_unknowns.Given as goal

-- the forms so far, and then those of the unknowns to come
abbrev pub invariant-loop-i : goal.invariant-loop-i
invariant-loop-i l = l.made ++ variables_from l.columns (l.first + l.i) (l.count - l.i) ≡ l.forms ++ variables_from l.columns l.first l.count
