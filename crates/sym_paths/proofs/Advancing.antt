-- What a step of the code gives, entry by entry.
use Rattle.std.proofs.Common.{◌≡◌, ℕ, zero, suc, Bool, true, false, List, [], ◌∷◌, ◌++◌, map, reverse, if◌then◌else◌}
use Rattle.std.proofs.Common.{refl, ap, sym, subst, ◌∙◌, append_assoc, append-nil}
use Rattle.std.specs.Prelude.{ℤ, pos, ◌≤ℤ◌, ◌<◌, All, Option, Some, IsSome, slice_index_or, slice_get}
use Rattle.std.specs.Option.{option_map}
use Rattle.std.proofs.lemmas.List.Elements.{All-nil, All-cons, All-head, All-tail}
use Rattle.std.proofs.lemmas.List.{reverse-append, map-append, length-replicate}
use Rattle.c_ast.specs.declared.expr.Expr as expr
use Rattle.c_ast.specs.declared.expr.Expr.{Expr, fold_out-Expr, map-Expr, out-Expr}
use Rattle.c_ast.specs.declared.expr.Expr.TheOpen.{Expr-F}
use Rattle.c_ast.specs.declared.expr.Expr.TheVariants.{outs-Num, outs-Var, outs-Un, outs-Bin, outs-Cond}
use Rattle.c_ast.specs.declared.expr.UnOp.{UnOp}
use Rattle.c_ast.specs.declared.expr.BinOp.{BinOp}
use Rattle.c_ast.specs.declared.expr.BinOp.TheVariants.{Mul, Div, Rem, Add, Sub, Less, LessEq, Greater, GreaterEq, Equal, NotEqual, And, Or}
use Rattle.c_ast.specs.Tree.{Expression, Num, Var, Un, Bin, Cond}
use Rattle.c_ast.specs.View.{expression_level, expression_of}
use Rattle.c_ast.specs.Value.{IsDivisor, CanEvaluate}
use Rattle.lin_terms.specs.declared.form.Form.{Form}
use Rattle.lin_terms.specs.declared.row.Row.{Row}
use Rattle.lin_terms.specs.Form.{constant_form}
use Rattle.flow_graph.specs.declared.op.Op.{Op}
use Rattle.flow_graph.specs.Operation.{Operation, Set, Branch, Mark, operation_of}
use Rattle.flow_graph.specs.FlowGraph.{FlowGraph, operation_at, stop_of}
use Rattle.flow_graph.specs.WellFormed.{Fits, IsFlowGraph}
use Rattle.sym_paths.specs.declared.arrival.Answer.{Answer}
use Rattle.sym_paths.specs.declared.arrival.Made.{Made}
use Rattle.sym_paths.specs.declared.task.Entry.{Entry}
use Rattle.sym_paths.specs.declared.task.Entry.TheVariants as entry
use Rattle.sym_paths.specs.declared.task.Move as coded_move
use Rattle.sym_paths.specs.declared.task.Move.TheVariants as move
use Rattle.sym_paths.specs.declared.task.Task as coded_task
use Rattle.sym_paths.specs.declared.task.Pending as coded_pending
use Rattle.sym_paths.specs.Walk.{State, Arrival, Walk, gives, onward}
use Rattle.sym_paths.specs.Rows.{made}
use Rattle.sym_paths.specs.Symbolic.{tested, divisor_of, binary_made}
use Rattle.sym_paths.specs.Machine.{Task, Value, Binary, Todo, todo, operator_tasks, done, by_test, step, Pending, Move}
use Rattle.sym_paths.specs.Machine.{Goes, with_todo, advanced_by, entered_by, entered}
use Rattle.sym_paths.specs.Arrivals.{answer_of, made_of, task_of, pending_of, HasRoom, EntryIsSound}
use Rattle.sym_paths.proofs.Onward.{onward_append, onward_same, onward_assoc}

-- the case goes on with each form that is made
abbrev pub with_made : ℕ → FlowGraph → coded_pending.Pending → List Made → Walk Move
with_made room graph p found = onward (map made_of found) (λ form. gives (Goes
    (with_todo room graph (pending_of p) (pending_of p).tasks (todo [] (form ∷ (pending_of p).stack)))))

-- the case that each answer chooses
abbrev pub with_answers : ℕ → coded_pending.Pending → coded_pending.Pending → List Answer → Walk Move
with_answers columns p q answers = onward (map (answer_of columns) answers) (λ test. gives (Goes
    (if test then pending_of p else pending_of q)))

-- one thing more of a list that is taken from its end
module _ {A B X E : Type 0} (f : X → Arrival A) (g : E → Arrival B) (next : A → State → Walk B) where
  pub onward_last : (moves found : List E) (x : X) (left : List X) → map g found ≡ onward (f x ∷ []) next
      → map g (moves ++ found) ++ onward (map f (reverse left)) next ≡ map g moves ++ onward (map f (reverse (left ++ x ∷ []))) next
  onward_last moves found x left is =
      ap (λ (t : Walk B). t ++ onward (map f (reverse left)) next) (map-append g moves found)
      ∙ append_assoc (map g moves) (map g found) (onward (map f (reverse left)) next)
      ∙ ap (λ (t : Walk B). map g moves ++ t) (ap (λ (t : Walk B). t ++ onward (map f (reverse left)) next) is
      ∙ sym (onward_append (f x ∷ []) (map f (reverse left)) next)
      ∙ ap (λ (t : List X). onward (map f t) next) (sym (reverse-append left (x ∷ []))))

  pub onward_step : (moves moves' found : List E) (x : X) (left left' whole : List X) → left ≡ left' ++ x ∷ [] → moves' ≡ moves ++ found
      → map g found ≡ onward (f x ∷ []) next → map g moves ++ onward (map f (reverse left)) next ≡ onward (map f whole) next
      → map g moves' ++ onward (map f (reverse left')) next ≡ onward (map f whole) next
  onward_step moves moves' found x left left' whole taken added is before =
      ap (λ (t : List E). map g t ++ onward (map f (reverse left')) next) added ∙ onward_last moves found x left' is
      ∙ ap (λ (t : List X). map g moves ++ onward (map f (reverse t)) next) (sym taken) ∙ before

  pub onward_ends : (moves : List E) (left whole : List X) → left ≡ []
      → map g moves ++ onward (map f (reverse left)) next ≡ onward (map f whole) next → map g moves ≡ onward (map f whole) next
  onward_ends moves left whole none before =
      sym (append-nil (map g moves)) ∙ ap (λ (t : List X). map g moves ++ onward (map f (reverse t)) next) (sym none) ∙ before

  -- what all but the last come to, and then the last
  pub onward_both : (moves found : List E) (left whole : List X) (x : X) → whole ≡ left ++ x ∷ [] → map g moves ≡ onward (map f left) next
      → map g found ≡ onward (f x ∷ []) next → map g (moves ++ found) ≡ onward (map f whole) next
  onward_both moves found left whole x is before last =
      map-append g moves found ∙ ap (λ (t : Walk B). t ++ map g found) before ∙ ap (λ (t : Walk B). onward (map f left) next ++ t) last
      ∙ sym (onward_append (map f left) (f x ∷ []) next)
      ∙ ap (λ (t : Walk A). onward t next) (sym (map-append f left (x ∷ []))) ∙ ap (λ (t : List X). onward (map f t) next) (sym is)

-- ---- one task

module _ (room : ℕ) (graph : FlowGraph) where
  -- the case with tasks in front of its own, and another stack
  abbrev pub case_of : Pending → Todo → Pending
  case_of p t = with_todo room graph p p.tasks t

  pub task_then : (p behind next : Pending) (first : Task) (tasks : List Task) (stack : List Form) → behind ≡ case_of p (todo tasks stack)
      → next ≡ case_of behind (todo (first ∷ []) behind.stack) → next ≡ case_of p (todo (first ∷ tasks) stack)
  task_then p behind next first tasks stack behind_is next_is =
      next_is ∙ ap (λ (q : Pending). case_of q (todo (first ∷ []) q.stack)) behind_is

  done_onward : (q : Pending) (walk : Walk Form) → onward (done room q.forms q.stack walk) (λ t next. gives (Goes (case_of q t)) next)
      ≡ onward walk (λ form. gives (Goes (case_of q (todo [] (form ∷ q.stack)))))
  done_onward q walk =
      onward_assoc walk (λ form state. gives (todo [] (form ∷ q.stack)) state) (λ t next. gives (Goes (case_of q t)) next)
      ∙ onward_same walk (λ form state. onward (gives (todo [] (form ∷ q.stack)) state) (λ t next. gives (Goes (case_of q t)) next))
      (λ form. gives (Goes (case_of q (todo [] (form ∷ q.stack))))) (λ form state. refl)

  chosen_goes : (q : Pending) (one other : Todo) (test : Bool) (state : State)
      → gives (Goes (case_of q (if test then one else other))) state ≡ gives (Goes (if test then case_of q one else case_of q other)) state
  chosen_goes q one other true state = refl
  chosen_goes q one other false state = refl

  test_onward : (q : Pending) (form : Form) (one other : Todo) (state : State)
      → onward (by_test room q.forms form state one other) (λ t next. gives (Goes (case_of q t)) next)
      ≡ onward (tested form state) (λ test. gives (Goes (if test then case_of q one else case_of q other)))
  test_onward q form one other state =
      onward_assoc (tested form state) (λ test next. gives (if test then one else other) next) (λ t next. gives (Goes (case_of q t)) next)
      ∙ onward_same (tested form state)
      (λ test state. onward (gives (if test then one else other) state) (λ t next. gives (Goes (case_of q t)) next))
      (λ test. gives (Goes (if test then case_of q one else case_of q other))) (chosen_goes q one other)

  at_operand : (p q : Pending) (form : Form) (task : Task) (state : State) → p ≡ case_of q (todo [] (form ∷ q.stack))
      → advanced_by room graph p (task ∷ p.tasks) state
      ≡ onward (step room q.forms task (form ∷ q.stack) state) (λ t next. gives (Goes (case_of q t)) next)
  at_operand p q form task state is = ap (λ (r : Pending). advanced_by room graph r (task ∷ r.tasks) state) is

  -- a task whose operator makes forms of the topmost one
  pub made_advanced : (p q : Pending) (form : Form) (task : Task) (state : State) (walk walk' : Walk Form) (moves : Walk Move)
      → p ≡ case_of q (todo [] (form ∷ q.stack)) → step room q.forms task (form ∷ q.stack) state ≡ done room q.forms q.stack walk
      → walk' ≡ walk → moves ≡ onward walk' (λ f. gives (Goes (case_of q (todo [] (f ∷ q.stack)))))
      → moves ≡ advanced_by room graph p (task ∷ p.tasks) state
  made_advanced p q form task state walk walk' moves is step_is made moves_are =
      moves_are ∙ ap (λ (w : Walk Form). onward w (λ f. gives (Goes (case_of q (todo [] (f ∷ q.stack)))))) made
      ∙ sym (done_onward q walk)
      ∙ ap (λ (w : Walk Todo). onward w (λ t next. gives (Goes (case_of q t)) next)) (sym step_is)
      ∙ sym (at_operand p q form task state is)

  -- a task that tests it
  pub test_advanced : (p q a b : Pending) (form : Form) (task : Task) (state : State) (one other : Todo) (answers : Walk Bool) (moves : Walk Move)
      → p ≡ case_of q (todo [] (form ∷ q.stack)) → step room q.forms task (form ∷ q.stack) state ≡ by_test room q.forms form state one other
      → answers ≡ tested form state → a ≡ case_of q one → b ≡ case_of q other
      → moves ≡ onward answers (λ test. gives (Goes (if test then a else b))) → moves ≡ advanced_by room graph p (task ∷ p.tasks) state
  test_advanced p q a b form task state one other answers moves is step_is answers_are a_is b_is moves_are =
      moves_are ∙ ap (λ (w : Walk Bool). onward w (λ test. gives (Goes (if test then a else b)))) answers_are
      ∙ ap (λ (r : Pending). onward (tested form state) (λ test. gives (Goes (if test then r else b)))) a_is
      ∙ ap (λ (r : Pending). onward (tested form state) (λ test. gives (Goes (if test then case_of q one else r)))) b_is
      ∙ sym (test_onward q form one other state)
      ∙ ap (λ (w : Walk Todo). onward w (λ t next. gives (Goes (case_of q t)) next)) (sym step_is)
      ∙ sym (at_operand p q form task state is)

  -- a binary operator
  pub binary_advanced : (p q : Pending) (left right : Form) (op : BinOp) (state : State) (walk : Walk Form) (moves : Walk Move)
      → p ≡ case_of q (todo [] (left ∷ q.stack)) → walk ≡ binary_made room op left right state
      → moves ≡ onward walk (λ f. gives (Goes (case_of q (todo [] (f ∷ q.stack)))))
      → moves ≡ advanced_by room graph (case_of p (todo [] (right ∷ p.stack))) (Binary op ∷ p.tasks) state
  binary_advanced p q left right op state walk moves is made_is moves_are =
      moves_are ∙ ap (λ (w : Walk Form). onward w (λ f. gives (Goes (case_of q (todo [] (f ∷ q.stack)))))) made_is
      ∙ sym (done_onward q (binary_made room op left right state))
      ∙ sym (ap (λ (r : Pending). advanced_by room graph (case_of r (todo [] (right ∷ r.stack))) (Binary op ∷ r.tasks) state) is)

  -- the constant that an expression is
  pub constant_advanced : (p : Pending) (z : ℤ) (e : Expression) (state : State) (walk : Walk Form) (moves : Walk Move) → e ≡ Num z
      → walk ≡ made (constant_form room z) state → moves ≡ onward walk (λ f. gives (Goes (case_of p (todo [] (f ∷ p.stack)))))
      → moves ≡ advanced_by room graph p (Value e ∷ p.tasks) state
  constant_advanced p z e state walk moves is made_is moves_are =
      moves_are ∙ ap (λ (w : Walk Form). onward w (λ f. gives (Goes (case_of p (todo [] (f ∷ p.stack)))))) made_is
      ∙ sym (done_onward p (made (constant_form room z) state))
      ∙ ap (λ (t : Expression). advanced_by room graph p (Value t ∷ p.tasks) state) (sym is)

  -- an expression whose step is one move
  pub value_advanced : (p next : Pending) (e e' : Expression) (t : Todo) (state : State) (moves : Walk Move) → e ≡ e'
      → step room p.forms (Value e') p.stack state ≡ gives t state → next ≡ case_of p t → moves ≡ gives (Goes next) state
      → moves ≡ advanced_by room graph p (Value e ∷ p.tasks) state
  value_advanced p next e e' t state moves is step_is next_is moves_are =
      moves_are ∙ ap (λ (q : Pending). gives (Goes q) state) next_is
      ∙ ap (λ (w : Walk Todo). onward w (λ t next. gives (Goes (case_of p t)) next)) (sym step_is)
      ∙ ap (λ (t : Expression). advanced_by room graph p (Value t ∷ p.tasks) state) (sym is)

  -- what stands behind an operator's left operand
  pub right_is : (p made : Pending) (op : BinOp) (left right : Expression) (tasks : List Task) → made ≡ case_of p (todo tasks p.stack)
      → Value left ∷ tasks ≡ operator_tasks op left right
      → case_of made (todo (Value left ∷ []) made.stack) ≡ case_of p (todo (operator_tasks op left right) p.stack)
  right_is p made op left right tasks is tasks_are =
      ap (λ (q : Pending). case_of q (todo (Value left ∷ []) q.stack)) is ∙ ap (λ (t : List Task). case_of p (todo t p.stack)) tasks_are

pub other_operator : (op : BinOp) (left right : Expression) → (op ≡ Div → ⊥) → (op ≡ Rem → ⊥) → (op ≡ And → ⊥) → (op ≡ Or → ⊥)
    → Value left ∷ Value right ∷ Binary op ∷ [] ≡ operator_tasks op left right
other_operator Mul left right d r a o = refl
other_operator Div left right d r a o = absurd (d refl)
other_operator Rem left right d r a o = absurd (r refl)
other_operator Add left right d r a o = refl
other_operator Sub left right d r a o = refl
other_operator Less left right d r a o = refl
other_operator LessEq left right d r a o = refl
other_operator Greater left right d r a o = refl
other_operator GreaterEq left right d r a o = refl
other_operator Equal left right d r a o = refl
other_operator NotEqual left right d r a o = refl
other_operator And left right d r a o = absurd (a refl)
other_operator Or left right d r a o = absurd (o refl)

pub is_at_least_one : (e : Expression) → IsDivisor e → pos 1 ≤ℤ divisor_of e
is_at_least_one (Num z) h = h
is_at_least_one (Var x) h = absurd h
is_at_least_one (Un op e) h = absurd h
is_at_least_one (Bin op e f) h = absurd h
is_at_least_one (Cond c e f) h = absurd h

-- ---- trees

opened : (e : Expr) (x : Expr-F Expr) → out-Expr e ≡ x → expression_of e ≡ expression_level (map-Expr Expr Expression expression_of x)
opened e x h = fold_out-Expr Expression expression_level e ∙ ap (λ (y : Expr-F Expr). expression_level (map-Expr Expr Expression expression_of y)) h

pub tree_num : (z : ℤ) → expression_of (expr.Num z) ≡ Num z
tree_num z = opened (expr.Num z) _ (outs-Num z)

pub tree_var : (x : ℕ) → expression_of (expr.Var x) ≡ Var x
tree_var x = opened (expr.Var x) _ (outs-Var x)

pub tree_un : (op : UnOp) (e : Expr) → expression_of (expr.Un op e) ≡ Un op (expression_of e)
tree_un op e = opened (expr.Un op e) _ (outs-Un op e)

pub tree_bin : (op : BinOp) (e f : Expr) → expression_of (expr.Bin op e f) ≡ Bin op (expression_of e) (expression_of f)
tree_bin op e f = opened (expr.Bin op e f) _ (outs-Bin op e f)

pub tree_cond : (c e f : Expr) → expression_of (expr.Cond c e f) ≡ Cond (expression_of c) (expression_of e) (expression_of f)
tree_cond c e f = opened (expr.Cond c e f) _ (outs-Cond c e f)

-- ---- room

pub variable_has_room : (room x : ℕ) (form : Form) (forms : List Form) → All (HasRoom room) forms
    → form ≡ slice_index_or forms x (constant_form room (pos 0)) → HasRoom room form
variable_has_room room x form forms has is = subst (HasRoom room) (sym is) (within forms x has)
  where
    within : (forms : List Form) (x : ℕ) → All (HasRoom room) forms → HasRoom room (slice_index_or forms x (constant_form room (pos 0)))
    within [] x has = length-replicate room (pos 0)
    within (f ∷ forms) zero has = All-head (HasRoom room) f forms has
    within (f ∷ forms) (suc x) has = within forms x (All-tail (HasRoom room) f forms has)

pub one_is_sound : (room : ℕ) (graph : FlowGraph) (e : Entry) (moves : List Entry) → moves ≡ e ∷ [] → EntryIsSound room graph e
    → All (EntryIsSound room graph) moves
one_is_sound room graph e moves is sound =
    subst (All (EntryIsSound room graph)) (sym is) (All-cons (EntryIsSound room graph) e [] sound (All-nil (EntryIsSound room graph)))

pub sound_anywhere : (room : ℕ) (graph : FlowGraph) (rows other : List Row) (columns n : ℕ) (step : coded_move.Move)
    → EntryIsSound room graph (entry.Arrives rows columns step) → EntryIsSound room graph (entry.Arrives other n step)
sound_anywhere room graph rows other columns n (move.Goes p) sound = sound
sound_anywhere room graph rows other columns n (move.Ends place forms) sound = tt

-- ---- nodes

pub set_fits : (at : ℕ → Option Operation) (count vars node x : ℕ) (e : Expression) (next : ℕ) → Fits at count vars node (Set x e next)
    → CanEvaluate vars e × (next < count)
set_fits at count vars node x e next h = (h.1, h.2.0)

pub branch_fits : (at : ℕ → Option Operation) (count vars node : ℕ) (e : Expression) (first second : ℕ)
    → Fits at count vars node (Branch e first second) → CanEvaluate vars e × ((first < count) × (second < count))
branch_fits at count vars node e first second h = (h.0, (h.1.0, h.2.0))

pub mark_is_known : (graph : FlowGraph) (node mark next : ℕ) → IsFlowGraph graph → operation_at graph node ≡ Some (Mark mark next)
    → IsSome (stop_of graph.stops mark)
mark_is_known graph node mark next formed is = let stop = formed.marks node mark next is in rw stop.found refl

pub operation_is : (graph : FlowGraph) (node : ℕ) (op known : Op) → slice_get graph.ops node ≡ Some op → op ≡ known
    → operation_at graph node ≡ Some (operation_of known)
operation_is graph node op known found is =
    ap (λ (o : Option Op). option_map operation_of o) found ∙ ap (λ (o : Op). Some (operation_of o)) is

pub entered_again : (room : ℕ) (graph : FlowGraph) (left less node : ℕ) (forms : List Form) (state : State) → left ≡ suc less
    → entered_by room graph less (operation_at graph node) forms state ≡ entered room graph left node forms state
entered_again room graph left less node forms state is = ap (λ (n : ℕ). entered room graph n node forms state) (sym is)

pub next_task : (tasks others : List coded_task.Task) (task : coded_task.Task) → tasks ≡ others ++ task ∷ []
    → reverse (map task_of tasks) ≡ task_of task ∷ reverse (map task_of others)
next_task tasks others task is =
    ap (λ (ts : List coded_task.Task). reverse (map task_of ts)) is ∙ ap reverse (map-append task_of others (task ∷ []))
    ∙ reverse-append (map task_of others) (task_of task ∷ [])
