-- What the code's lists of answers and of forms stand for.
use Rattle.std.specs.Prelude.{◌≡◌, ℕ, ◌<◌, pos, ◌≤ℤ◌, Bool, List, [], length, All, map, reverse}
use Rattle.std.specs.Option.{option_to_list}
use Rattle.lin_terms.specs.declared.form.Form.{Form}
use Rattle.lin_terms.specs.declared.row.Row.{Row}
use Rattle.sym_paths.specs.declared.limit.PathLimit.TheVariants as limit
use Rattle.sym_paths.specs.declared.arrival.Answer.{Answer}
use Rattle.sym_paths.specs.declared.arrival.Answer.TheVariants.{Given, Wide}
use Rattle.sym_paths.specs.declared.arrival.Made.{Made}
use Rattle.sym_paths.specs.declared.arrival.Made.TheVariants as made
use Rattle.sym_paths.specs.declared.task.Task as coded_task
use Rattle.sym_paths.specs.declared.task.Task.TheVariants as task
use Rattle.sym_paths.specs.declared.task.Goal as coded_goal
use Rattle.sym_paths.specs.declared.task.Goal.TheVariants as goal
use Rattle.sym_paths.specs.declared.task.Pending as coded_pending
use Rattle.sym_paths.specs.declared.task.Subject.{Subject}
use Rattle.sym_paths.specs.declared.task.Subject.TheVariants as subject
use Rattle.sym_paths.specs.declared.task.Move as coded_move
use Rattle.sym_paths.specs.declared.task.Move.TheVariants as move
use Rattle.sym_paths.specs.declared.task.Entry.{Entry}
use Rattle.sym_paths.specs.declared.task.Entry.TheVariants as entry
use Rattle.c_ast.specs.View.{expression_of}
use Rattle.c_ast.specs.Value.{CanEvaluate}
use Rattle.flow_graph.specs.FlowGraph.{FlowGraph, flow_graph}
use Rattle.c_ast.specs.declared.place.Place.{Place}
use Rattle.sym_paths.specs.Walk.{State, Path, Arrival, Arrives, Stops}
use Rattle.sym_paths.specs.Nodes.{End, end_at}
use Rattle.sym_paths.specs.Machine.{Task, Value, Unary, Binary, Quotient, Rest, Test, AndThen, OrElse, Choose, Goal, ToSet, ToBranch, ToReturn, ToHold, Pending, Move, Goes, Ends}

-- The state with no row of its own.
abbrev pub fresh : ℕ → State
fresh columns = record { rows = []; columns = columns }

-- The answer of a test, with the row under which it is given.
abbrev pub answer_of : ℕ → Answer → Arrival Bool
answer_of columns (Given row answer) =
    Arrives (record { state = record { rows = option_to_list row; columns = columns }; value = answer })
answer_of columns Wide = Stops limit.WideForm

-- The form that is made, with its rows and columns.
abbrev pub made_of : Made → Arrival Form
made_of (made.Arrives rows columns form) =
    Arrives (record { state = record { rows = rows; columns = columns }; value = form })
made_of (made.Stops why) = Stops why

-- ---- cases under way

-- The graph that is walked over. A condition's has its parameters and no node.
abbrev pub graph_of : Subject → FlowGraph
graph_of (subject.Graph graph) = graph.now
graph_of (subject.Condition arity) = flow_graph arity arity [] 0 []

-- The task.
abbrev pub task_of : coded_task.Task → Task
task_of (task.Value e) = Value (expression_of e.now)
task_of (task.Unary op) = Unary op
task_of (task.Binary op) = Binary op
task_of (task.Quotient divisor) = Quotient divisor
task_of (task.Rest divisor) = Rest divisor
task_of task.Test = Test
task_of (task.AndThen e) = AndThen (expression_of e.now)
task_of (task.OrElse e) = OrElse (expression_of e.now)
task_of (task.Choose e f) = Choose (expression_of e.now) (expression_of f.now)

-- What the form of an expression is for.
abbrev pub goal_of : coded_goal.Goal → Goal
goal_of (goal.ToSet x next) = ToSet x next
goal_of (goal.ToBranch first second) = ToBranch first second
goal_of goal.ToReturn = ToReturn
goal_of goal.ToHold = ToHold

-- The case under way. The code has the next task and the topmost form last.
abbrev pub pending_of : coded_pending.Pending → Pending
pending_of p = record {
  tasks = reverse (map task_of p.tasks.items);
  stack = reverse p.stack.items;
  goal = goal_of p.goal;
  forms = p.forms.items;
  left = p.left;
}

-- The move.
abbrev pub move_of : coded_move.Move → Move
move_of (move.Goes p) = Goes (pending_of p)
move_of (move.Ends place forms) = Ends (end_at place forms.items)

-- What a step comes to, with the rows that it adds.
abbrev pub entry_of : Entry → Arrival Move
entry_of (entry.Arrives rows columns step) =
    Arrives (record { state = record { rows = rows; columns = columns }; value = move_of step })
entry_of (entry.Stops why) = Stops why

-- ---- what the code keeps

-- The form has a coefficient for each column.
abbrev pub HasRoom : ℕ → Form → Type 0
HasRoom room form = length form.coefs ≡ room

-- So has what is made.
abbrev pub MadeHasRoom : ℕ → Made → Type 0
MadeHasRoom room (made.Arrives rows columns form) = HasRoom room form
MadeHasRoom room (made.Stops why) = Unit {0}

-- The task's expressions can be evaluated where n variables have values, and its divisor is at least 1.
abbrev pub CanTake : ℕ → Task → Type 0
CanTake n (Value e) = CanEvaluate n e
CanTake n (Unary op) = Unit {0}
CanTake n (Binary op) = Unit {0}
CanTake n (Quotient divisor) = pos 1 ≤ℤ divisor
CanTake n (Rest divisor) = pos 1 ≤ℤ divisor
CanTake n Test = Unit {0}
CanTake n (AndThen e) = CanEvaluate n e
CanTake n (OrElse e) = CanEvaluate n e
CanTake n (Choose e f) = CanEvaluate n e × CanEvaluate n f

-- The goal leads to nodes of the graph.
abbrev pub LeadsWithin : ℕ → Goal → Type 0
LeadsWithin count (ToSet x next) = next < count
LeadsWithin count (ToBranch first second) = (first < count) × (second < count)
LeadsWithin count ToReturn = Unit {0}
LeadsWithin count ToHold = Unit {0}

-- A case under way has forms with a coefficient for each column, tasks that can be taken, and a goal within the graph.
pub record IsUnderWay (room : ℕ) (graph : FlowGraph) (p : coded_pending.Pending) : Type 0 where
  pub tasks : All (λ t. CanTake graph.vars (task_of t)) p.tasks.items
  pub stack : All (HasRoom room) p.stack.items
  pub goal : LeadsWithin (length graph.ops) (goal_of p.goal)
  pub forms : All (HasRoom room) p.forms.items

-- So has what a step comes to, where it is no limit and not complete.
abbrev pub EntryIsSound : ℕ → FlowGraph → Entry → Type 0
EntryIsSound room graph (entry.Arrives rows columns (move.Goes p)) = IsUnderWay room graph p
EntryIsSound room graph (entry.Arrives rows columns (move.Ends place forms)) = Unit {0}
EntryIsSound room graph (entry.Stops why) = Unit {0}

-- A complete case before its rows and forms are cut.
abbrev pub path_of : List Row → ℕ → Place → List Form → Path End
path_of rows columns place forms =
    record { state = record { rows = rows; columns = columns }; value = end_at place forms }
