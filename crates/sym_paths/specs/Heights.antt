-- How many steps a case under way may still take: the measure of the search.
use Rattle.std.specs.Prelude.{ℕ, zero, suc, ◌+◌, List, [], ◌∷◌, Option, Some, None}
use Rattle.c_ast.specs.Tree.{Expression, Num, Var, Un, Bin, Cond}
use Rattle.flow_graph.specs.Operation.{Operation, Set, Branch, Mark, Return}
use Rattle.flow_graph.specs.FlowGraph.{FlowGraph, operation_at}
use Rattle.sym_paths.specs.Walk.{Arrival, Arrives, Stops, Walk}
use Rattle.sym_paths.specs.Machine.{Task, Value, Unary, Binary, Quotient, Rest, Test, AndThen, OrElse, Choose, Goal, ToSet, ToBranch, ToReturn, ToHold, Pending, Move, Goes, Ends}

-- More than the heights of what an expression's first step leaves.
abbrev pub expression_height : Expression → ℕ
expression_height (Num z) = 1
expression_height (Var x) = 1
expression_height (Un op e) = 2 + expression_height e
expression_height (Bin op e f) = 3 + expression_height e + expression_height f
expression_height (Cond c e f) = 2 + expression_height c + expression_height e + expression_height f

-- More than the heights of the tasks that a task's step leaves.
abbrev pub task_height : Task → ℕ
task_height (Value e) = expression_height e
task_height (Unary op) = 1
task_height (Binary op) = 1
task_height (Quotient divisor) = 1
task_height (Rest divisor) = 1
task_height Test = 1
task_height (AndThen e) = 2 + expression_height e
task_height (OrElse e) = 2 + expression_height e
task_height (Choose e f) = 1 + expression_height e + expression_height f

-- The height of all tasks.
abbrev pub tasks_height : List Task → ℕ
tasks_height [] = 0
tasks_height (task ∷ tasks) = task_height task + tasks_height tasks

-- More than the heights of the nodes that may come next.
abbrev pub goal_height : (ℕ → ℕ) → Goal → ℕ
goal_height heights (ToSet x next) = 1 + heights next
goal_height heights (ToBranch first second) = 1 + heights first + heights second
goal_height heights ToReturn = 1
goal_height heights ToHold = 1

-- The height of a node's operation.
abbrev pub operation_height : (ℕ → ℕ) → Option Operation → ℕ
operation_height heights None = 0
operation_height heights (Some (Set x e next)) = expression_height e + goal_height heights (ToSet x next)
operation_height heights (Some (Branch e first second)) =
    expression_height e + goal_height heights (ToBranch first second)
operation_height heights (Some (Mark mark next)) = 0
operation_height heights (Some (Return e)) = expression_height e + goal_height heights ToReturn

-- Four to this power: a step leaves at most three moves, each of a lower height.
abbrev pub four : ℕ → ℕ
four zero = 1
four (suc n) = four n + four n + four n + four n

module _ (graph : FlowGraph) where
  -- The height of a node, where so many may still come.
  abbrev pub node_height : ℕ → ℕ → ℕ
  node_height zero node = 0
  node_height (suc left) node = operation_height (node_height left) (operation_at graph node)

  -- The height of a case under way.
  abbrev pub pending_height : Pending → ℕ
  pending_height p = tasks_height p.tasks + goal_height (node_height p.left) p.goal

  -- The height of a move.
  abbrev pub move_height : Move → ℕ
  move_height (Goes p) = pending_height p
  move_height (Ends end) = 0

  -- The weight of what a walk meets.
  abbrev pub weight : Arrival Move → ℕ
  weight (Arrives path) = four (move_height path.value)
  weight (Stops limit) = 1

  -- The weight of all that is left to do: each step lowers it.
  abbrev pub weights : Walk Move → ℕ
  weights [] = 0
  weights (arrival ∷ walk) = weight arrival + weights walk
