use Rattle.std.proofs.Common.{◌≡◌, ◌++◌, map, drop}
use Rattle.path_product.specs.Clauses.{placed_row}
use Rattle.path_product.specs.Placing.{spot_of}
use Rattle.path_product.proofs.columns.Spot.place_rows.Given as goal

abbrev pub invariant-loop-row : goal.invariant-loop-row
invariant-loop-row l = l.made.items ++ map (placed_row (spot_of l.self)) (drop l.row-index l.rows)
    ≡ l.initial.made.items ++ map (placed_row (spot_of l.self)) l.rows
