-- The cases of a segment, and what they say.
use Rattle.std.specs.Prelude.{◌≡◌, ℕ, zero, suc, ◌+◌, pos, ℤ, List, [], ◌∷◌, ◌++◌, take, replicate, length, map, All, Result, Ok, Err}
use Rattle.c_ast.specs.declared.place.Place.{Place}
use Rattle.lin_terms.specs.declared.form.Form.{Form}
use Rattle.lin_terms.specs.declared.row.Row.{Row}
use Rattle.lin_terms.specs.Form.{value_at, constant_form, variable_form}
use Rattle.lin_terms.specs.Row.{Holds}
use Rattle.flow_graph.specs.FlowGraph.{FlowGraph, node_after, variables_at}
use Rattle.c_ast.specs.Step.{spread_with}
use Rattle.sym_paths.specs.declared.limit.PathLimit.{PathLimit}
use Rattle.sym_paths.specs.declared.case.Case.{Case}
use Rattle.sym_paths.specs.Walk.{State, Path, Walk, collect}
use Rattle.sym_paths.specs.Nodes.{End, walk_from}

-- The variables of the start and at most 16 unknowns.
abbrev pub room_for : ℕ → ℕ
room_for width = width + 16

-- The forms of n variables of the start, from variable j on.
abbrev pub variables_from : ℕ → ℕ → ℕ → List Form
variables_from room j zero = []
variables_from room j (suc n) = variable_form room j ∷ variables_from room (suc j) n

-- Each variable in scope at the start is a form of itself, and each other variable is 0.
abbrev pub start_forms : ℕ → List ℕ → ℕ → List Form
start_forms room variables vars =
    spread_with (constant_form room (pos 0)) variables vars (variables_from room 0 (length variables))

-- No row, and the variables of the start alone.
abbrev pub start_state : ℕ → State
start_state width = record { rows = []; columns = width }

-- The walk of a segment from the place. No way over the graph is longer than it has nodes.
abbrev pub segment_walk : FlowGraph → Place → Walk End
segment_walk graph l =
    let width = length (variables_at graph l) in
    walk_from (room_for width) graph (suc (length graph.ops)) (node_after graph l)
    (start_forms (room_for width) (variables_at graph l) graph.vars) (start_state width)

-- The first n numbers, and zeros where there are fewer.
abbrev pub fitted : ℕ → List ℤ → List ℤ
fitted n numbers = take n (numbers ++ replicate n (pos 0))

-- The row over n columns.
abbrev pub fitted_row : ℕ → Row → Row
fitted_row n row = record { coefs = fitted n row.coefs; constant = row.constant; equality = row.equality }

-- The form over n columns.
abbrev pub fitted_form : ℕ → Form → Form
fitted_form n form = record { coefs = fitted n form.coefs; constant = form.constant }

-- A complete case has the columns that are in use.
abbrev pub completed : Path End → Case
completed path = record {
  rows = map (fitted_row path.state.columns) path.state.rows;
  to = path.value.place;
  after = map (fitted_form path.state.columns) path.value.forms;
}

-- The complete cases, where there is no limit.
abbrev pub all_completed : Result (List (Path End)) PathLimit → Result (List Case) PathLimit
all_completed (Ok paths) = Ok (map completed paths)
all_completed (Err limit) = Err limit

-- The cases of the segments from the place, at most 1,024, or the first limit that the walk meets.
abbrev pub cases_of : FlowGraph → Place → Result (List Case) PathLimit
cases_of graph l = all_completed (collect 1024 (segment_walk graph l))

-- With these numbers for its unknowns the case holds at the values e, and ends at the place l' with the values e'.
pub record LeadsWith (e : List ℤ) (l' : Place) (e' : List ℤ) (case : Case) (unknowns : List ℤ) : Type 0 where
  pub columns : All (λ row. length row.coefs ≡ length (e ++ unknowns)) case.rows
      × All (λ form. length form.coefs ≡ length (e ++ unknowns)) case.after
  pub holds : All (Holds (e ++ unknowns)) case.rows
  pub place : case.to ≡ l'
  pub values : map (λ form. value_at form (e ++ unknowns)) case.after ≡ e'

-- The case holds at the values e, with whole numbers for its unknowns, and leads to these values at that place.
abbrev pub LeadsTo : List ℤ → Place → List ℤ → Case → Type 0
LeadsTo e l' e' case = (unknowns : List ℤ) × LeadsWith e l' e' case unknowns
