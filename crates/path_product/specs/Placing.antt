-- Where the code's columns stand.
use Rattle.std.specs.Prelude.{◌≡◌, ◌<◌, ◌≤◌, Option, Some, None}
use Rattle.path_product.specs.declared.columns.Spot as coded_spot
use Rattle.path_product.specs.declared.columns.Columns as coded_columns
use Rattle.path_product.specs.Clauses.{Spot, Columns, unknowns_in}

-- The spot that the code's stands for.
abbrev pub spot_of : coded_spot.Spot → Spot
spot_of spot = record {
  before = spot.before;
  variables = spot.variables;
  gap = spot.gap;
  unknowns = spot.unknowns;
  behind = spot.behind;
}

-- The columns that the code's stand for.
abbrev pub counts_of_columns : coded_columns.Columns → Columns
counts_of_columns columns = record {
  first = columns.first;
  second = columns.second;
  condition_unknowns = columns.condition_unknowns;
  first_unknowns = columns.first_unknowns;
  second_unknowns = columns.second_unknowns;
}

-- These are the columns, unless there is a 17th unknown.
abbrev pub AreColumns : Columns → Option coded_columns.Columns → Type 0
AreColumns c None = 16 < unknowns_in c
AreColumns c (Some columns) = (counts_of_columns columns ≡ c) × (unknowns_in c ≤ 16)
