-- What the code of one side has, what that stands for, and what it needs.
use Rattle.std.specs.Prelude.{◌≡◌, ◌⊎◌, ℕ, ◌≤◌, ◌+◌, ◌-◌, Bool, true, false, map, List, [], ◌++◌, length, All, Option, Some, None, Result, Ok, Err}
use Rattle.c_ast.specs.declared.place.Place.{Place}
use Rattle.lin_terms.specs.declared.form.Form.{Form}
use Rattle.lin_terms.specs.declared.row.Row.{Row}
use Rattle.lin_terms.specs.Makes.{IsFittingForm}
use Rattle.horn_clauses.specs.Clause.{columns_in}
use Rattle.sym_paths.specs.declared.limit.PathLimit.{PathLimit}
use Rattle.sym_paths.specs.declared.limit.PathLimit.TheVariants as limit
use Rattle.sym_paths.specs.declared.case.Case.{Case}
use Rattle.sym_paths.specs.Walk.{State, Path, Walk, gives, stops, collect, onward}
use Rattle.sym_paths.specs.Nodes.{End, end_at}
use Rattle.sym_paths.specs.Cases.{room_for}
use Rattle.path_product.specs.declared.compose.Reached.{Reached}
use Rattle.path_product.specs.declared.side.SidePath.{SidePath}
use Rattle.path_product.specs.declared.starts.Start.{Start}
use Rattle.path_product.specs.Starts.{width_in}
use Rattle.path_product.specs.Compose.{case_over}
use Rattle.path_product.specs.Sides.{goes_on, goes_on_or_stays, side_from}

-- The state of these rows, with so many columns in use.
abbrev pub state_of : List Row → ℕ → State
state_of rows columns = record { rows = rows; columns = columns }

-- Where the walk is.
abbrev pub end_of : Reached → End
end_of reached = end_at reached.place reached.forms

-- What the walk arrives at by a case: nothing, or its end.
abbrev pub came : List Row → Option Reached → Walk End
came rows None = []
came rows (Some reached) = gives (end_of reached) (state_of rows reached.columns)

-- The walk meets this limit at once, unless memory ran out.
abbrev pub StopsAt : {A : Type 0} → Walk A → PathLimit → Type 0
StopsAt walk why = (why ≡ limit.Memory) ⊎ (walk ≡ stops why)

-- The form is too wide, unless memory ran out.
abbrev pub IsWide : Option Form → PathLimit → Type 0
IsWide made why = (why ≡ limit.Memory) ⊎ ((why ≡ limit.WideForm) × (made ≡ None))

-- The limit is the wanted one, unless memory ran out.
abbrev pub IsLimit : {A : Type 0} → Result A PathLimit → PathLimit → Type 0
IsLimit wanted why = (why ≡ limit.Memory) ⊎ (wanted ≡ Err why)

-- The forms are over so many columns at most, and their entries are below 2^50 in size.
pub record AreOver (columns : ℕ) (forms : List Form) : Type 0 where
  pub lengths : All (λ form. length form.coefs ≤ columns) forms
  pub fit : All IsFittingForm forms

-- The case's rows and forms have one length: a column for each variable of its start, of which there are so many, and
-- for each of at most 16 unknowns.
pub record HasColumns (width : ℕ) (case : Case) : Type 0 where
  pub enough : width ≤ columns_in width case.rows case.after
  pub few : columns_in width case.rows case.after ≤ width + 16
  pub rows : All (λ row. length row.coefs ≡ columns_in width case.rows case.after) case.rows
  pub forms : All (λ form. length form.coefs ≡ columns_in width case.rows case.after) case.after

-- The case's end is reached, with so many columns at most, and with a form for each of its own.
pub record AreMade (most : ℕ) (case : Case) (reached : Reached) : Type 0 where
  pub few : reached.columns ≤ most
  pub over : AreOver reached.columns reached.forms
  pub place : reached.place ≡ case.to
  pub many : length reached.forms ≡ length case.after

-- From there the walk can go on: there is a form for each value at the place, and there are so many columns at most.
pub record CanGoOn (starts : List Start) (most : ℕ) (reached : Reached) : Type 0 where
  pub few : reached.columns ≤ most
  pub over : AreOver reached.columns reached.forms
  pub many : length reached.forms ≡ width_in starts reached.place

-- The path.
abbrev pub path_of_side : SidePath → Path End
path_of_side path = record { state = state_of path.rows path.columns; value = end_at path.to path.after }

-- Paths that are there, and then others, unless a limit is met.
abbrev pub behind_paths : List (Path End) → Result (List (Path End)) PathLimit → Result (List (Path End)) PathLimit
behind_paths made (Ok paths) = Ok (made ++ paths)
behind_paths made (Err why) = Err why

-- The paths that are there, and then those by which the walk arrives, at most 1,024 in all, or the first limit.
abbrev pub gathered : List SidePath → Walk End → Result (List (Path End)) PathLimit
gathered made walk = behind_paths (map path_of_side made) (collect (1024 - length made) walk)

-- What the walk comes to by a case of the first segment, where so many may come behind it.
abbrev pub by_first : List Start → ℕ → ℕ → Place → Case → Walk End
by_first starts width count from case =
    goes_on_or_stays (goes_on from case.to) (side_from starts (room_for width) count) (end_at case.to case.after)
    (state_of case.rows (columns_in width case.rows case.after))

-- What it comes to by a case of a later segment, from where it is with these rows.
abbrev pub by_case : List Start → ℕ → ℕ → Reached → List Row → Case → Walk End
by_case starts most count at rows case =
    onward (case_over most at.forms case (state_of rows at.columns))
    (λ next after. goes_on_or_stays (goes_on at.place next.place) (side_from starts most count) next after)

-- How many segments may still come: none where the side stays.
abbrev pub left_after : Bool → ℕ → ℕ
left_after true count = count
left_after false count = 0
