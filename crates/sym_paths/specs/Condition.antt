-- The cases of a condition on the inputs.
use Rattle.std.specs.Prelude.{◌≡◌, ℕ, Bool, true, false, ℤ, List, [], ◌++◌, length, map, All, Result, Ok, Err}
use Rattle.c_ast.specs.Tree.{Expression}
use Rattle.lin_terms.specs.declared.row.Row.{Row}
use Rattle.lin_terms.specs.Row.{Holds}
use Rattle.sym_paths.specs.declared.limit.PathLimit.{PathLimit}
use Rattle.sym_paths.specs.declared.case.Case.{Case}
use Rattle.sym_paths.specs.Walk.{State, Path, Walk, gives, onward, collect}
use Rattle.sym_paths.specs.Symbolic.{condition, symbolic}
use Rattle.sym_paths.specs.Cases.{room_for, variables_from, start_state, fitted_row}

-- A walk goes on where the condition is true.
abbrev pub where_true : Bool → State → Walk (Unit {0})
where_true true state = gives (tt {0}) state
where_true false state = []

-- The walk of a condition over so many parameters, where it is true.
abbrev pub condition_walk : ℕ → Expression → Walk (Unit {0})
condition_walk arity e = onward (condition (symbolic (room_for arity) (variables_from (room_for arity) 0 arity) e)
    (start_state arity)) where_true

-- The rows of a complete case, over the columns that are in use.
abbrev pub completed_rows : Path (Unit {0}) → List Row
completed_rows path = map (fitted_row path.state.columns) path.state.rows

-- The rows of the cases, where there is no limit.
abbrev pub rows_of_all : Result (List (Path (Unit {0}))) PathLimit → Result (List (List Row)) PathLimit
rows_of_all (Ok paths) = Ok (map completed_rows paths)
rows_of_all (Err limit) = Err limit

-- The rows alone of complete cases, where there is no limit.
abbrev pub rows_alone : Result (List Case) PathLimit → Result (List (List Row)) PathLimit
rows_alone (Ok cases) = Ok (map (λ case. case.rows) cases)
rows_alone (Err limit) = Err limit

-- The cases in which the condition holds, at most 1,024, or the first limit that the walk meets.
abbrev pub condition_cases : ℕ → Expression → Result (List (List Row)) PathLimit
condition_cases arity e = rows_of_all (collect 1024 (condition_walk arity e))

-- With these numbers for the unknowns all rows hold at the inputs.
pub record HoldWith (inputs : List ℤ) (rows : List Row) (unknowns : List ℤ) : Type 0 where
  pub columns : All (λ row. length row.coefs ≡ length (inputs ++ unknowns)) rows
  pub holds : All (Holds (inputs ++ unknowns)) rows

-- The rows hold at the inputs, with whole numbers for the unknowns.
abbrev pub HoldAt : List ℤ → List Row → Type 0
HoldAt inputs rows = (unknowns : List ℤ) × HoldWith inputs rows unknowns
