-- The walk in single steps: what is left of an expression is a list of tasks over a stack of forms, and the search is a
-- list of cases under way, of which the first takes its next step.
use Rattle.std.specs.Prelude.{ℕ, zero, suc, ℤ, pos, Bool, true, false, if◌then◌else◌, List, [], ◌∷◌, ◌++◌, slice_index_or, slice_set, Option, Some, None}
use Rattle.c_ast.specs.declared.place.Place.TheVariants as place
use Rattle.c_ast.specs.declared.expr.UnOp.{UnOp}
use Rattle.c_ast.specs.declared.expr.BinOp.{BinOp}
use Rattle.c_ast.specs.declared.expr.BinOp.TheVariants.{Div, Rem, And, Or}
use Rattle.c_ast.specs.Tree.{Expression, Num, Var, Un, Bin, Cond}
use Rattle.lin_terms.specs.declared.form.Form.{Form}
use Rattle.lin_terms.specs.Form.{constant_form}
use Rattle.flow_graph.specs.Operation.{Operation, Set, Branch, Mark, Return}
use Rattle.flow_graph.specs.FlowGraph.{FlowGraph, operation_at, variables_at}
use Rattle.flow_graph.specs.Run.{values_with}
use Rattle.sym_paths.specs.Walk.{State, Walk, gives, onward}
use Rattle.sym_paths.specs.Rows.{made}
use Rattle.sym_paths.specs.Symbolic.{tested, divisor_of, chosen, test_form, as_value, unary_made, binary_made, quotient_made, rest_made, test_made, symbolic}
use Rattle.sym_paths.specs.Nodes.{End, end_at, walk_from}

-- What is done next of an expression; the forms of operands are on the stack.
pub data Task : Type 0 where
  -- The form of an expression is put on the stack.
  Value : Expression → Task
  -- An operator takes its operands from the stack, and puts what it makes there.
  Unary : UnOp → Task
  Binary : BinOp → Task
  Quotient : ℤ → Task
  Rest : ℤ → Task
  -- The topmost form goes, and its test is put there as 1 or 0.
  Test : Task
  -- The topmost form goes, and where it is a true first operand the test of the second is put there; else 0.
  AndThen : Expression → Task
  -- The same where it is a false one, and else 1.
  OrElse : Expression → Task
  -- The topmost form goes, and where it is true the first expression's form is put there, and else the second's.
  Choose : Expression → Expression → Task

-- Tasks that are put in front of the others, and the stack.
pub record Todo : Type 0 where
  pub tasks : List Task
  pub stack : List Form

-- These tasks and this stack.
abbrev pub todo : List Task → List Form → Todo
todo tasks stack = record { tasks = tasks; stack = stack }

-- An operator's tasks behind those of its operands.
abbrev pub operator_tasks : BinOp → Expression → Expression → List Task
operator_tasks Div e f = Value e ∷ Quotient (divisor_of f) ∷ []
operator_tasks Rem e f = Value e ∷ Rest (divisor_of f) ∷ []
operator_tasks And e f = Value e ∷ AndThen f ∷ []
operator_tasks Or e f = Value e ∷ OrElse f ∷ []
operator_tasks op e f = Value e ∷ Value f ∷ Binary op ∷ []

module _ (room : ℕ) (forms : List Form) where
  -- A form on top of the stack.
  abbrev pub on_top : List Form → Walk Form → Walk (List Form)
  on_top stack walk = onward walk (λ form state. gives (form ∷ stack) state)

  -- What a task does to the stack.
  abbrev pub does : Task → List Form → State → Walk (List Form)
  does (Value e) stack state = on_top stack (symbolic room forms e state)
  does (Unary op) (f ∷ stack) state = on_top stack (unary_made room op f state)
  does (Binary op) (g ∷ f ∷ stack) state = on_top stack (binary_made room op f g state)
  does (Quotient divisor) (f ∷ stack) state = on_top stack (quotient_made room divisor f state)
  does (Rest divisor) (f ∷ stack) state = on_top stack (rest_made room divisor f state)
  does Test (f ∷ stack) state = on_top stack (as_value room (tested f state))
  does (AndThen e) (f ∷ stack) state =
      on_top stack (onward (tested f state)
      (chosen (test_made room (symbolic room forms e)) (gives (test_form room false))))
  does (OrElse e) (f ∷ stack) state =
      on_top stack (onward (tested f state)
      (chosen (gives (test_form room true)) (test_made room (symbolic room forms e))))
  does (Choose e g)
      (f ∷ stack) state = on_top stack (onward (tested f state)
      (chosen (symbolic room forms e) (symbolic room forms g)))
  does _ stack state = []

  -- What tasks do, one after another.
  abbrev pub does_all : List Task → List Form → State → Walk (List Form)
  does_all [] stack state = gives stack state
  does_all (task ∷ tasks) stack state = onward (does task stack state) (does_all tasks)

  -- No task is left.
  abbrev pub done : List Form → Walk Form → Walk Todo
  done stack walk = onward walk (λ form state. gives (todo [] (form ∷ stack)) state)

  -- One of two, by a test.
  abbrev pub by_test : Form → State → Todo → Todo → Walk Todo
  by_test f state first second = onward (tested f state) (λ test next. gives (if test then first else second) next)

  -- One step of a task.
  abbrev pub step : Task → List Form → State → Walk Todo
  step (Value (Num z)) stack state = done stack (made (constant_form room z) state)
  step (Value (Var x)) stack state =
      gives (todo [] (slice_index_or forms x (constant_form room (pos 0)) ∷ stack)) state
  step (Value (Un op e)) stack state = gives (todo (Value e ∷ Unary op ∷ []) stack) state
  step (Value (Bin op e f)) stack state = gives (todo (operator_tasks op e f) stack) state
  step (Value (Cond c e f)) stack state = gives (todo (Value c ∷ Choose e f ∷ []) stack) state
  step (Unary op) (f ∷ stack) state = done stack (unary_made room op f state)
  step (Binary op) (g ∷ f ∷ stack) state = done stack (binary_made room op f g state)
  step (Quotient divisor) (f ∷ stack) state = done stack (quotient_made room divisor f state)
  step (Rest divisor) (f ∷ stack) state = done stack (rest_made room divisor f state)
  step Test (f ∷ stack) state = done stack (as_value room (tested f state))
  step (AndThen e) (f ∷ stack) state = by_test f state (todo (Value e ∷ Test ∷ []) stack)
      (todo [] (test_form room false ∷ stack))
  step (OrElse e) (f ∷ stack) state = by_test f state (todo [] (test_form room true ∷ stack))
      (todo (Value e ∷ Test ∷ []) stack)
  step (Choose e g) (f ∷ stack) state = by_test f state (todo (Value e ∷ []) stack) (todo (Value g ∷ []) stack)
  step _ stack state = []

-- What is done with the form of an expression: of a node's, or of a condition on its own.
pub data Goal : Type 0 where
  ToSet : ℕ → ℕ → Goal
  ToBranch : ℕ → ℕ → Goal
  ToReturn : Goal
  ToHold : Goal

-- The walk arrives at the value where a test is true, and nowhere where it is false.
abbrev pub only_where : {A : Type 0} → A → Bool → State → Walk A
only_where value true state = gives value state
only_where value false state = []

-- The end of a condition that holds: it has no values.
abbrev pub holding : End
holding = end_at place.Exit []

-- A case under way: what is left of the expression, what it is for, the variables' forms, and how many nodes may
-- still come.
pub record Pending : Type 0 where
  pub tasks : List Task
  pub stack : List Form
  pub goal : Goal
  pub forms : List Form
  pub left : ℕ

-- A case under way, or a complete one.
pub data Move : Type 0 where
  Goes : Pending → Move
  Ends : End → Move

module _ (room : ℕ) (graph : FlowGraph) where
  -- What the walk does once the expression's form is on the stack.
  abbrev pub reached : ℕ → Goal → List Form → List Form → State → Walk End
  reached left goal forms [] state = []
  reached left (ToSet x next) forms (f ∷ stack) state = walk_from room graph left next (slice_set forms x f) state
  reached left (ToBranch first second) forms (f ∷ stack) state =
      onward (tested f state) (λ test. walk_from room graph left (if test then first else second) forms)
  reached left ToReturn forms (f ∷ stack) state = gives (end_at place.Exit (f ∷ [])) state
  reached left ToHold forms (f ∷ stack) state = onward (tested f state) (only_where holding)

  -- What the walk does from a case under way.
  abbrev pub resumed : Pending → State → Walk End
  resumed p state = onward (does_all room p.forms p.tasks p.stack state) (reached p.left p.goal p.forms)

  -- What it does from a move.
  abbrev pub resume : Move → State → Walk End
  resume (Goes p) state = resumed p state
  resume (Ends end) state = gives end state

  -- An expression is begun.
  abbrev pub evaluating : Expression → Goal → List Form → ℕ → Move
  evaluating e goal forms left =
      Goes (record { tasks = Value e ∷ []; stack = []; goal = goal; forms = forms; left = left })

  -- A node is entered, with its operation.
  abbrev pub entered_by : ℕ → Option Operation → List Form → State → Walk Move
  entered_by left None forms state = []
  entered_by left (Some (Set x e next)) forms state = gives (evaluating e (ToSet x next) forms left) state
  entered_by left (Some (Branch e first second)) forms state =
      gives (evaluating e (ToBranch first second) forms left) state
  entered_by left (Some (Mark mark next)) forms state =
      gives (Ends (end_at (place.Mark mark)
      (values_with (constant_form room (pos 0)) (variables_at graph (place.Mark mark)) forms))) state
  entered_by left (Some (Return e)) forms state = gives (evaluating e ToReturn forms left) state

  -- A node is entered, where one may still come.
  abbrev pub entered : ℕ → ℕ → List Form → State → Walk Move
  entered zero node forms state = []
  entered (suc left) node forms state = entered_by left (operation_at graph node) forms state

  -- The form of an expression is used.
  abbrev pub used : ℕ → Goal → List Form → List Form → State → Walk Move
  used left goal forms [] state = []
  used left (ToSet x next) forms (f ∷ stack) state = entered left next (slice_set forms x f) state
  used left (ToBranch first second) forms (f ∷ stack) state =
      onward (tested f state) (λ test. entered left (if test then first else second) forms)
  used left ToReturn forms (f ∷ stack) state = gives (Ends (end_at place.Exit (f ∷ []))) state
  used left ToHold forms (f ∷ stack) state = onward (tested f state) (only_where (Ends holding))

  -- The case with other tasks and another stack.
  abbrev pub with_todo : Pending → List Task → Todo → Pending
  with_todo p others t =
      record { tasks = t.tasks ++ others; stack = t.stack; goal = p.goal; forms = p.forms; left = p.left }

  -- One step of a case under way, with these tasks.
  abbrev pub advanced_by : Pending → List Task → State → Walk Move
  advanced_by p [] state = used p.left p.goal p.forms p.stack state
  advanced_by p (task ∷ tasks) state = onward (step room p.forms task p.stack state)
      (λ t next. gives (Goes (with_todo p tasks t)) next)

  -- One step of a case under way.
  abbrev pub advanced : Pending → State → Walk Move
  advanced p state = advanced_by p p.tasks state
