-- The shape and the sizes of cases.
use Rattle.std.specs.Prelude.{◌≡◌, ◌≢◌, ℕ, ◌+◌, ◌≤◌, ◌^◌, List, length, All, Ok}
use Rattle.c_ast.specs.declared.place.Place.{Place}
use Rattle.c_ast.specs.declared.place.Place.TheVariants as place
use Rattle.c_ast.specs.Tree.{Expression}
use Rattle.c_ast.specs.Value.{CanEvaluate}
use Rattle.lin_terms.specs.declared.row.Row.{Row}
use Rattle.lin_terms.specs.Makes.{IsFittingForm}
use Rattle.lin_terms.specs.Row.{EntriesAreBelow}
use Rattle.flow_graph.specs.FlowGraph.{FlowGraph, width_at, GoesOnAt, HasPlace}
use Rattle.flow_graph.specs.WellFormed.{IsFlowGraph}
use Rattle.sym_paths.specs.declared.case.Case.{Case}
use Rattle.sym_paths.specs.Cases.{cases_of}
use Rattle.sym_paths.specs.Condition.{condition_cases}

-- Rows over so many variables and at most 16 unknowns: they have one length, and entries below 2^50 in size.
pub record FitVariables (width columns : ℕ) (rows : List Row) : Type 0 where
  pub enough : width ≤ columns
  pub few : columns ≤ width + 16
  pub lengths : All (λ row. length row.coefs ≡ columns) rows
  pub small : All (EntriesAreBelow (2 ^ 50)) rows

-- The case is over the variables in scope at the place. It ends at a mark of the graph or at the exit, with a form for
-- each value there, over the same columns and with entries below 2^50 in size.
pub record FitsSegment (graph : FlowGraph) (l : Place) (case : Case) : Type 0 where
  pub columns : ℕ
  pub rows : FitVariables (width_at graph l) columns case.rows
  pub lengths : All (λ form. length form.coefs ≡ columns) case.after
  pub small : All IsFittingForm case.after
  pub has : HasPlace graph case.to
  pub elsewhere : case.to ≢ place.Entry
  pub after : length case.after ≡ width_at graph case.to

-- The rows of a condition's case are over its parameters.
pub record FitsInputs (arity : ℕ) (rows : List Row) : Type 0 where
  pub columns : ℕ
  pub over : FitVariables arity columns rows

-- The cases of the segments from a place fit it.
abbrev pub CasesFit : Type 0
CasesFit = (graph : FlowGraph) → IsFlowGraph graph → (l : Place) → GoesOnAt graph l → (cases : List Case)
    → cases_of graph l ≡ Ok cases → All (FitsSegment graph l) cases

-- The cases of a condition fit its parameters.
abbrev pub ConditionsFit : Type 0
ConditionsFit = (arity : ℕ) (condition : Expression) → CanEvaluate arity condition → (cases : List (List Row))
    → condition_cases arity condition ≡ Ok cases → All (FitsInputs arity) cases
