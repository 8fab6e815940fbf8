use Rattle.std.proofs.Common.{◌≡◌, map, length, take, drop}
use Rattle.sym_paths.specs.Rows.{all_joined}
use Rattle.path_product.specs.Compose.{row_over}
use Rattle.path_product.specs.Coded.{state_of}
use Rattle.path_product.proofs.compose.join_all.Given as goal

abbrev pub invariant-loop-row : goal.invariant-loop-row
invariant-loop-row l = record {
  same : all_joined (map (row_over l.columns l.at) (drop l.row-index l.case_rows)) (tt {0}) (state_of l.rows l.columns)
      ≡ all_joined (map (row_over l.columns l.at) l.case_rows) (tt {0}) (state_of l.initial.rows l.columns);
  kept : take (length l.initial.rows) l.rows ≡ l.initial.rows;
}
