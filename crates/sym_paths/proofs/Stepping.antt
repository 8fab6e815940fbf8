-- A step of a task, and then what is left to do, is what the task does.
use Rattle.std.proofs.Common.{◌≡◌, ℕ, Bool, true, false, cond, List, [], ◌∷◌, get_or, refl, sym, ◌∙◌, ap}
use Rattle.std.specs.Prelude.{pos}
use Rattle.c_ast.specs.declared.expr.BinOp.{BinOp}
use Rattle.c_ast.specs.declared.expr.BinOp.TheVariants.{Mul, Div, Rem, Add, Sub, Less, LessEq, Greater, GreaterEq, Equal, NotEqual, And, Or}
use Rattle.c_ast.specs.Tree.{Expression, Num, Var, Un, Bin, Cond}
use Rattle.lin_terms.specs.declared.form.Form.{Form}
use Rattle.lin_terms.specs.Form.{constant_form}
use Rattle.sym_paths.specs.Walk.{State, Walk, gives, onward}
use Rattle.sym_paths.specs.Rows.{made}
use Rattle.sym_paths.specs.Symbolic.{tested, divisor_of, Part, both, condition, chosen, test_form, as_value, unary_made, binary_made, quotient_made, rest_made, test_made, symbolic}
use Rattle.sym_paths.specs.Machine.{Task, Value, Unary, Binary, Quotient, Rest, Test, AndThen, OrElse, Choose, Todo, todo, operator_tasks, on_top, does, does_all, done, by_test, step}
use Rattle.sym_paths.proofs.Onward.{onward_one, onward_same, onward_gives, onward_assoc}

module _ (room : ℕ) (forms : List Form) where
  abbrev pub does_todo : Todo → State → Walk (List Form)
  does_todo t state = does_all room forms t.tasks t.stack state

  -- a step that leaves no task
  none_left : (stack : List Form) (walk : Walk Form) → on_top room forms stack walk ≡ onward (done room forms stack walk) does_todo
  none_left stack walk =
      sym (onward_assoc walk (λ form state. gives (todo [] (form ∷ stack)) state) does_todo
      ∙ onward_same walk (λ form state. onward (gives (todo [] (form ∷ stack)) state) does_todo) (λ form state. gives (form ∷ stack) state)
      (λ form state. onward_one (todo [] (form ∷ stack)) state does_todo))

  -- one task on its own
  alone : (task : Task) (stack : List Form) (state : State) → does_all room forms (task ∷ []) stack state ≡ does room forms task stack state
  alone task stack state = onward_gives (does room forms task stack state)

  -- a form, and then tasks that use it
  after_form : (e : Expression) (tasks : List Task) (stack : List Form) (state : State)
      → does_all room forms (Value e ∷ tasks) stack state ≡ onward (symbolic room forms e state) (λ f next. does_all room forms tasks (f ∷ stack) next)
  after_form e tasks stack state =
      onward_assoc (symbolic room forms e state) (λ f next. gives (f ∷ stack) next) (does_all room forms tasks)
      ∙ onward_same (symbolic room forms e state) (λ f next. onward (gives (f ∷ stack) next) (does_all room forms tasks))
      (λ f next. does_all room forms tasks (f ∷ stack) next) (λ f next. onward_one (f ∷ stack) next (does_all room forms tasks))

  -- an expression whose form is made of one operand's
  one_operand : (e : Expression) (task : Task) (make : Form → State → Walk Form) (stack : List Form) (state : State)
      → ((f : Form) (next : State) → does room forms task (f ∷ stack) next ≡ on_top room forms stack (make f next))
      → on_top room forms stack (onward (symbolic room forms e state) make) ≡ does_all room forms (Value e ∷ task ∷ []) stack state
  one_operand e task make stack state same =
      onward_assoc (symbolic room forms e state) make (λ f next. gives (f ∷ stack) next)
      ∙ onward_same (symbolic room forms e state) (λ f next. on_top room forms stack (make f next))
      (λ f next. does_all room forms (task ∷ []) (f ∷ stack) next) (λ f next. sym (same f next) ∙ sym (alone task (f ∷ stack) next))
      ∙ sym (after_form e (task ∷ []) stack state)

  -- one whose form is made of two operands'
  two_operands : (op : BinOp) (e f : Expression) (stack : List Form) (state : State)
      → on_top room forms stack (both (symbolic room forms e) (symbolic room forms f) (binary_made room op) state)
      ≡ does_all room forms (Value e ∷ Value f ∷ Binary op ∷ []) stack state
  two_operands op e f stack state =
      onward_assoc (symbolic room forms e state) (λ g next. onward (symbolic room forms f next) (λ h last. binary_made room op g h last))
      (λ g next. gives (g ∷ stack) next)
      ∙ onward_same (symbolic room forms e state)
      (λ g next. on_top room forms stack (onward (symbolic room forms f next) (λ h last. binary_made room op g h last)))
      (λ g next. does_all room forms (Value f ∷ Binary op ∷ []) (g ∷ stack) next) second
      ∙ sym (after_form e (Value f ∷ Binary op ∷ []) stack state)
    where
      second : (g : Form) (next : State)
          → on_top room forms stack (onward (symbolic room forms f next) (λ h last. binary_made room op g h last))
          ≡ does_all room forms (Value f ∷ Binary op ∷ []) (g ∷ stack) next
      second g next =
          onward_assoc (symbolic room forms f next) (λ h last. binary_made room op g h last) (λ h last. gives (h ∷ stack) last)
          ∙ onward_same (symbolic room forms f next) (λ h last. on_top room forms stack (binary_made room op g h last))
          (λ h last. does_all room forms (Binary op ∷ []) (h ∷ g ∷ stack) last) (λ h last. sym (alone (Binary op) (h ∷ g ∷ stack) last))
          ∙ sym (after_form f (Binary op ∷ []) (g ∷ stack) next)

  -- a test decides which of two parts is walked
  chosen_after : (e : Expression) (task : Task) (first second : Part) (stack : List Form) (state : State)
      → ((f : Form) (next : State) → does room forms task (f ∷ stack) next ≡ on_top room forms stack (onward (tested f next) (chosen first second)))
      → on_top room forms stack (onward (condition (symbolic room forms e) state) (chosen first second))
      ≡ does_all room forms (Value e ∷ task ∷ []) stack state
  chosen_after e task first second stack state same =
      ap (on_top room forms stack) (onward_assoc (symbolic room forms e state) tested (chosen first second))
      ∙ one_operand e task (λ f next. onward (tested f next) (chosen first second)) stack state same

  operator_step : (op : BinOp) (e f : Expression) (stack : List Form) (state : State)
      → does room forms (Value (Bin op e f)) stack state ≡ does_all room forms (operator_tasks op e f) stack state
  operator_step Mul e f stack state = two_operands Mul e f stack state
  operator_step Div e f stack state = one_operand e (Quotient (divisor_of f)) (quotient_made room (divisor_of f)) stack state (λ g next. refl)
  operator_step Rem e f stack state = one_operand e (Rest (divisor_of f)) (rest_made room (divisor_of f)) stack state (λ g next. refl)
  operator_step Add e f stack state = two_operands Add e f stack state
  operator_step Sub e f stack state = two_operands Sub e f stack state
  operator_step Less e f stack state = two_operands Less e f stack state
  operator_step LessEq e f stack state = two_operands LessEq e f stack state
  operator_step Greater e f stack state = two_operands Greater e f stack state
  operator_step GreaterEq e f stack state = two_operands GreaterEq e f stack state
  operator_step Equal e f stack state = two_operands Equal e f stack state
  operator_step NotEqual e f stack state = two_operands NotEqual e f stack state
  operator_step And e f stack state =
      chosen_after e (AndThen f) (test_made room (symbolic room forms f)) (gives (test_form room false)) stack state (λ g next. refl)
  operator_step Or e f stack state =
      chosen_after e (OrElse f) (gives (test_form room true)) (test_made room (symbolic room forms f)) stack state (λ g next. refl)

  one_left : (t : Todo) (state : State) (walk : Walk (List Form)) → walk ≡ does_todo t state → walk ≡ onward (gives t state) does_todo
  one_left t state walk is = is ∙ sym (onward_one t state does_todo)

  -- the test of an expression, on top
  test_is : (e : Expression) (stack : List Form) (state : State)
      → on_top room forms stack (test_made room (symbolic room forms e) state) ≡ does_all room forms (Value e ∷ Test ∷ []) stack state
  test_is e stack state =
      ap (on_top room forms stack) (onward_assoc (symbolic room forms e state) tested (λ test next. gives (test_form room test) next))
      ∙ one_operand e Test (λ f next. as_value room (tested f next)) stack state (λ f next. refl)

  constant_is : (test : Bool) (stack : List Form) (state : State)
      → on_top room forms stack (gives (test_form room test) state) ≡ does_all room forms [] (test_form room test ∷ stack) state
  constant_is test stack state = onward_one (test_form room test) state (λ f next. gives (f ∷ stack) next)

  value_is : (e : Expression) (stack : List Form) (state : State)
      → on_top room forms stack (symbolic room forms e state) ≡ does_all room forms (Value e ∷ []) stack state
  value_is e stack state = sym (alone (Value e) stack state)

  -- a test that decides between two parts, each of which has its tasks
  decided : (f : Form) (state : State) (first second : Part) (one other : Todo) (stack : List Form)
      → ((next : State) → on_top room forms stack (first next) ≡ does_todo one next)
      → ((next : State) → on_top room forms stack (second next) ≡ does_todo other next)
      → on_top room forms stack (onward (tested f state) (chosen first second)) ≡ onward (by_test room forms f state one other) does_todo
  decided f state first second one other stack same same' =
      onward_assoc (tested f state) (chosen first second) (λ g next. gives (g ∷ stack) next)
      ∙ onward_same (tested f state) (λ test next. on_top room forms stack (chosen first second test next))
      (λ test next. onward (gives (cond test one other) next) does_todo) pick
      ∙ sym (onward_assoc (tested f state) (λ test next. gives (cond test one other) next) does_todo)
    where
      pick : (test : Bool) (next : State) → on_top room forms stack (chosen first second test next) ≡ onward (gives (cond test one other) next) does_todo
      pick true next = same next ∙ sym (onward_one one next does_todo)
      pick false next = same' next ∙ sym (onward_one other next does_todo)

  pub stepped : (task : Task) (stack : List Form) (state : State)
      → does room forms task stack state ≡ onward (step room forms task stack state) does_todo
  stepped (Value (Num z)) stack state = none_left stack (made (constant_form room z) state)
  stepped (Value (Var x)) stack state =
      one_left (todo [] (get_or forms x (constant_form room (pos 0)) ∷ stack)) state _
      (onward_one (get_or forms x (constant_form room (pos 0))) state (λ f next. gives (f ∷ stack) next))
  stepped (Value (Un op e)) stack state =
      one_left (todo (Value e ∷ Unary op ∷ []) stack) state _ (one_operand e (Unary op) (unary_made room op) stack state (λ f next. refl))
  stepped (Value (Bin op e f)) stack state = one_left (todo (operator_tasks op e f) stack) state _ (operator_step op e f stack state)
  stepped (Value (Cond c e f)) stack state =
      one_left (todo (Value c ∷ Choose e f ∷ []) stack) state _
      (chosen_after c (Choose e f) (symbolic room forms e) (symbolic room forms f) stack state (λ g next. refl))
  stepped (Unary op) [] state = refl
  stepped (Unary op) (f ∷ stack) state = none_left stack (unary_made room op f state)
  stepped (Binary op) [] state = refl
  stepped (Binary op) (g ∷ []) state = refl
  stepped (Binary op) (g ∷ f ∷ stack) state = none_left stack (binary_made room op f g state)
  stepped (Quotient d) [] state = refl
  stepped (Quotient d) (f ∷ stack) state = none_left stack (quotient_made room d f state)
  stepped (Rest d) [] state = refl
  stepped (Rest d) (f ∷ stack) state = none_left stack (rest_made room d f state)
  stepped Test [] state = refl
  stepped Test (f ∷ stack) state = none_left stack (as_value room (tested f state))
  stepped (AndThen e) [] state = refl
  stepped (AndThen e) (f ∷ stack) state =
      decided f state (test_made room (symbolic room forms e)) (gives (test_form room false)) (todo (Value e ∷ Test ∷ []) stack)
      (todo [] (test_form room false ∷ stack)) stack
      (λ next. test_is e stack next) (λ next. constant_is false stack next)
  stepped (OrElse e) [] state = refl
  stepped (OrElse e) (f ∷ stack) state =
      decided f state (gives (test_form room true)) (test_made room (symbolic room forms e)) (todo [] (test_form room true ∷ stack))
      (todo (Value e ∷ Test ∷ []) stack) stack
      (λ next. constant_is true stack next) (λ next. test_is e stack next)
  stepped (Choose e g) [] state = refl
  stepped (Choose e g) (f ∷ stack) state =
      decided f state (symbolic room forms e) (symbolic room forms g) (todo (Value e ∷ []) stack) (todo (Value g ∷ []) stack) stack
      (λ next. value_is e stack next) (λ next. value_is g stack next)
