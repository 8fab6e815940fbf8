-- The shapes and the sizes of what a product is made of.
use Rattle.std.specs.Prelude.{◌≡◌, ◌≢◌, ℕ, ◌≤◌, ◌^◌, List, length, All, IsSome}
use Rattle.c_ast.specs.declared.place.Place.{Place}
use Rattle.c_ast.specs.declared.place.Place.TheVariants as place
use Rattle.lin_terms.specs.Makes.{IsFittingForm}
use Rattle.lin_terms.specs.Row.{EntriesAreBelow}
use Rattle.horn_clauses.specs.Clause.{columns_in}
use Rattle.sym_paths.specs.declared.case.Case.{Case}
use Rattle.sym_paths.specs.Walk.{Path}
use Rattle.sym_paths.specs.Nodes.{End}
use Rattle.sym_paths.specs.Cases.{room_for}
use Rattle.path_product.specs.declared.starts.Start.{Start}
use Rattle.path_product.specs.Starts.{start_at, width_in}

-- The place is the exit, or one of those from which segments lead.
abbrev pub HasStart : List Start → Place → Type 0
HasStart starts place.Exit = Unit {0}
HasStart starts l = IsSome (start_at starts l)

-- The path is over so many variables of its start and at most 16 unknowns. Its rows and forms are over the columns in
-- use at most, with entries below 2^50 in size, and there is a form for each value at the place where it ends.
pub record FitsPath (starts : List Start) (width : ℕ) (path : Path End) : Type 0 where
  pub enough : width ≤ path.state.columns
  pub few : path.state.columns ≤ room_for width
  pub rows : All (λ row. length row.coefs ≤ path.state.columns) path.state.rows
  pub rows_fit : All (EntriesAreBelow (2 ^ 50)) path.state.rows
  pub forms : All (λ form. length form.coefs ≤ path.state.columns) path.value.forms
  pub forms_fit : All IsFittingForm path.value.forms
  pub has : HasStart starts path.value.place
  pub after : length path.value.forms ≡ width_in starts path.value.place

-- The case is over so many variables of its start and at most 16 unknowns. Its rows and forms have one length, and
-- entries below 2^50 in size. It ends at the exit or at a mark, with a form for each value there.
pub record FitsCase (starts : List Start) (width : ℕ) (case : Case) : Type 0 where
  pub enough : width ≤ columns_in width case.rows case.after
  pub few : columns_in width case.rows case.after ≤ room_for width
  pub rows : All (λ row. length row.coefs ≡ columns_in width case.rows case.after) case.rows
  pub rows_fit : All (EntriesAreBelow (2 ^ 50)) case.rows
  pub forms : All (λ form. length form.coefs ≡ columns_in width case.rows case.after) case.after
  pub forms_fit : All IsFittingForm case.after
  pub has : HasStart starts case.to
  pub elsewhere : case.to ≢ place.Entry
  pub after : length case.after ≡ width_in starts case.to

-- The cases from the place fit it; at most 64 variables are in scope there.
pub record FitsStart (starts : List Start) (start : Start) : Type 0 where
  pub few : start.width ≤ 64
  pub cases : All (FitsCase starts start.width) start.cases

-- The entry is one of the places, and the cases from each of them fit it.
pub record FitStarts (starts : List Start) : Type 0 where
  pub entry : HasStart starts place.Entry
  pub each : All (FitsStart starts) starts
