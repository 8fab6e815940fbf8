use Rattle.std.proofs.Common.{◌≡◌, ◌++◌, map, drop}
use Rattle.sym_paths.specs.Cases.{fitted_row}
use Rattle.sym_paths.proofs.case.fitted_rows.Given as goal

abbrev pub invariant-loop-row : goal.invariant-loop-row
invariant-loop-row l = l.made ++ map (fitted_row l.columns) (drop l.row-index l.rows) ≡ map (fitted_row l.columns) l.rows
