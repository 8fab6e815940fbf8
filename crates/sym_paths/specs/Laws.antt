-- Laws of walks and cases. Each is a clause of a call that does nothing.
use Rattle.std.specs.Prelude.{◌≡◌, ◌↔◌, ℕ, ◌+◌, ◌<◌, ◌≤◌, ℤ, List, ◌∷◌, ◌++◌, length, map, drop, All, Ok}
use Rattle.c_ast.specs.declared.place.Place.{Place}
use Rattle.c_ast.specs.Tree.{Expression}
use Rattle.c_ast.specs.Value.{eval, CanEvaluate}
use Rattle.c_ast.specs.Condition.{Meets}
use Rattle.lin_terms.specs.declared.form.Form.{Form}
use Rattle.lin_terms.specs.declared.row.Row.{Row}
use Rattle.flow_graph.specs.FlowGraph.{FlowGraph, width_at, GoesOnAt}
use Rattle.flow_graph.specs.Run.{IsGraphSegment}
use Rattle.flow_graph.specs.WellFormed.{IsFlowGraph}
use Rattle.sym_paths.specs.declared.case.Case.{Case}
use Rattle.sym_paths.specs.Walk.{State, Arrives, Walk, onward, collect, behind, walk_behind}
use Rattle.sym_paths.specs.Nodes.{walk_from}
use Rattle.sym_paths.specs.Machine.{Pending, Move, Goes, resume, entered, advanced}
use Rattle.sym_paths.specs.Heights.{weights}
use Rattle.sym_paths.specs.Symbolic.{symbolic}
use Rattle.lin_terms.specs.Form.{value_at}
use Rattle.lin_terms.specs.Row.{Holds}
use Rattle.sym_paths.specs.Points.{HasValue, HaveValues, HoldsBefore, Extends, SomeOf, Splits}
use Rattle.sym_paths.specs.Cases.{variables_from, cases_of, LeadsTo}
use Rattle.sym_paths.specs.Condition.{condition_cases, HoldAt}

-- Where the variables' forms have the values of an environment, the walk of an expression splits the points of each
-- state, and each form that it arrives at has the expression's value.
abbrev pub LawOfExpressions : Type 0
LawOfExpressions = (room : ℕ) (forms : List Form) (env : List ℤ) (n : ℕ) (e : Expression) (state : State)
    → CanEvaluate n e
    → Splits state (λ point. HaveValues point forms env) (λ point form. HasValue point form (eval e env))
    (symbolic room forms e state)

-- A segment leads from a place with these values to another with those exactly where some case does.
abbrev pub LawOfCases : Type 0
LawOfCases = (graph : FlowGraph) → IsFlowGraph graph → (l : Place) → GoesOnAt graph l → (cases : List Case)
    → cases_of graph l ≡ Ok cases
    → (e : List ℤ) (l' : Place) (e' : List ℤ) → length e ≡ width_at graph l
    → IsGraphSegment graph l e l' e' ↔ SomeOf (LeadsTo e l' e') cases

-- The inputs meet a condition exactly where the rows of some case hold there.
abbrev pub LawOfConditions : Type 0
LawOfConditions = (arity : ℕ) (condition : Expression) → CanEvaluate arity condition → (cases : List (List Row))
    → condition_cases arity condition ≡ Ok cases
    → (inputs : List ℤ) → length inputs ≡ arity → Meets condition inputs ↔ SomeOf (HoldAt inputs) cases

-- ---- points

-- At a longer point forms keep their values.
abbrev pub ValuesStay : Type 0
ValuesStay = (point longer : List ℤ) (forms : List Form) (values : List ℤ) → Extends point longer
    → HaveValues point forms values → HaveValues longer forms values

-- Forms that have values at a point, whatever comes behind it, have them there.
abbrev pub ValuesAreThose : Type 0
ValuesAreThose = (point : List ℤ) (forms : List Form) (values : List ℤ) → HaveValues point forms values
    → map (λ form. value_at form point) forms ≡ values

-- At a longer point rows hold still.
abbrev pub RowsStay : Type 0
RowsStay = (point longer : List ℤ) (rows : List Row) → Extends point longer
    → All (HoldsBefore point) rows → All (HoldsBefore longer) rows

-- Rows that hold at a point, whatever comes behind it, hold there.
abbrev pub RowsHoldThere : Type 0
RowsHoldThere = (point : List ℤ) (rows : List Row) → All (HoldsBefore point) rows → All (Holds point) rows

-- The forms of variables, from the j-th on, have the numbers there, from the j-th on.
abbrev pub VariablesHaveValues : Type 0
VariablesHaveValues = (room j n : ℕ) (values : List ℤ) → j + n ≡ length values → length values ≤ room
    → HaveValues values (variables_from room j n) (drop j values)

-- ---- the walk in single steps

-- The walk from a node is what is resumed once the node is entered.
abbrev pub WalkIsEntered : Type 0
WalkIsEntered = (room : ℕ) (graph : FlowGraph) (left node : ℕ) (forms : List Form) (state : State)
    → walk_from room graph left node forms state ≡ onward (entered room graph left node forms state) (resume room graph)

-- The first case under way takes its next step, and what comes of it stands in front of the others.
abbrev pub StepIsWalk : Type 0
StepIsWalk = (room : ℕ) (graph : FlowGraph) (n : ℕ) (pending : Pending) (state : State) (work : Walk Move)
    → collect n (onward (Arrives (record { state = state; value = Goes pending }) ∷ work) (resume room graph))
    ≡ collect n (onward (advanced room graph pending state ++ work) (resume room graph))

-- A step reads no row: with more rows in front it does the same.
abbrev pub StepReadsNoRow : Type 0
StepReadsNoRow = (front : List Row) (room : ℕ) (graph : FlowGraph) (pending : Pending) (state : State)
    → walk_behind front (advanced room graph pending state) ≡ advanced room graph pending (behind front state)

-- Each step lowers the weight of all that is left to do, so the search ends.
abbrev pub StepIsLower : Type 0
StepIsLower = (room : ℕ) (graph : FlowGraph) (pending : Pending) (state : State) (work : Walk Move)
    → weights graph (advanced room graph pending state ++ work)
    < weights graph (Arrives (record { state = state; value = Goes pending }) ∷ work)
