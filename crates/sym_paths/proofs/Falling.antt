-- Each step lowers the weight of what is left to do, so the search ends.
use Rattle.std.proofs.Common.{◌≡◌, ℕ, zero, suc, ◌+◌, ◌<◌, ◌≤◌, Bool, true, false, cond, List, [], ◌∷◌, ◌++◌, length, set, Option, Some, None, arith}
use Rattle.std.specs.Prelude.{ℤ, negsuc, ltb, eqb, unsigned_abs}
use Rattle.c_ast.specs.declared.expr.UnOp.{UnOp}
use Rattle.c_ast.specs.declared.expr.UnOp.TheVariants.{Plus, Minus, Not}
use Rattle.c_ast.specs.declared.expr.BinOp.{BinOp}
use Rattle.c_ast.specs.declared.expr.BinOp.TheVariants.{Mul, Div, Rem, Add, Sub, Less, LessEq, Greater, GreaterEq, Equal, NotEqual, And, Or}
use Rattle.c_ast.specs.Tree.{Expression, Num, Var, Un, Bin, Cond}
use Rattle.lin_terms.specs.declared.form.Form.{Form}
use Rattle.lin_terms.specs.declared.row.Row.{Row}
use Rattle.lin_terms.specs.declared.sign.Sign.{Sign}
use Rattle.lin_terms.specs.Form.{are_zeros, is_constant, sum_of, multiple_of, difference_of, product_of, constant_form}
use Rattle.lin_terms.specs.Makes.{fitting}
use Rattle.lin_terms.specs.Sign.{sign_row, tight_fitting}
use Rattle.flow_graph.specs.Operation.{Operation, Set, Branch, Mark, Return}
use Rattle.flow_graph.specs.FlowGraph.{FlowGraph, operation_at}
use Rattle.sym_paths.specs.Walk.{State, Path, Arrives, Stops, Walk, gives, onward}
use Rattle.sym_paths.specs.Rows.{holds_alone, decided, joining, joined_tight, joined, all_joined, split, judged, made}
use Rattle.sym_paths.specs.Symbolic.{nonzero_signs, zero_signs, negative_signs, not_positive_signs, positive_signs, not_negative_signs, tested_by, tested, negated_by, negated, parts, rows_from_zero, rows_below_zero, two_ways, with_column, unknown, divided_by, parted_by, parted, product_made, test_form, as_value, compared, unary_made, binary_made, quotient_made, rest_made}
use Rattle.sym_paths.specs.Machine.{Task, Value, Unary, Binary, Quotient, Rest, Test, AndThen, OrElse, Choose, Todo, todo, operator_tasks, done, by_test, step, Goal, ToSet, ToBranch, ToReturn, ToHold, only_where, holding, Pending, Move, Goes, Ends, entered_by, entered, used, with_todo, advanced_by, advanced}
use Rattle.sym_paths.specs.Heights.{expression_height, task_height, tasks_height, goal_height, operation_height, four, node_height, pending_height, move_height, weights}
use Rattle.sym_paths.specs.Points.{EachArrives}
use Rattle.sym_paths.proofs.Walks.{each_append, onward_each}

-- ---- heights

onward_all : {A B : Type 0} (Q : Path B → Type 0) (w : Walk A) (next : A → State → Walk B) → ((a : A) (s : State) → EachArrives Q (next a s))
    → EachArrives Q (onward w next)
onward_all Q [] next all = tt
onward_all Q (Arrives p ∷ w) next all = each_append Q (next p.value p.state) (onward w next) (all p.value p.state) (onward_all Q w next all)
onward_all Q (Stops l ∷ w) next all = onward_all Q w next all

height_append : (tasks others : List Task) → tasks_height (tasks ++ others) ≡ tasks_height tasks + tasks_height others
height_append [] others = omega arith
height_append (task ∷ tasks) others = let h = height_append tasks others in omega arith

operator_height : (op : BinOp) (e f : Expression) → tasks_height (operator_tasks op e f) < 3 + expression_height e + expression_height f
operator_height Mul e f = omega arith
operator_height Div e f = omega arith
operator_height Rem e f = omega arith
operator_height Add e f = omega arith
operator_height Sub e f = omega arith
operator_height Less e f = omega arith
operator_height LessEq e f = omega arith
operator_height Greater e f = omega arith
operator_height GreaterEq e f = omega arith
operator_height Equal e f = omega arith
operator_height NotEqual e f = omega arith
operator_height And e f = omega arith
operator_height Or e f = omega arith

module _ (room : ℕ) (forms : List Form) where
  abbrev IsLower : ℕ → Path Todo → Type 0
  IsLower n path = tasks_height path.value.tasks < n

  none_lower : (stack : List Form) (walk : Walk Form) (n : ℕ) → 0 < n → EachArrives (IsLower n) (done room forms stack walk)
  none_lower stack walk n some = onward_all (IsLower n) walk (λ form state. gives (todo [] (form ∷ stack)) state) (λ form state. (some, tt))

  by_test_lower : (f : Form) (state : State) (one other : Todo) (n : ℕ) → tasks_height one.tasks < n → tasks_height other.tasks < n
      → EachArrives (IsLower n) (by_test room forms f state one other)
  by_test_lower f state one other n low low' = onward_all (IsLower n) (tested f state) (λ test next. gives (cond test one other) next)
      (λ test next. (pick test, tt))
    where
      pick : (test : Bool) → tasks_height (cond test one other).tasks < n
      pick true = low
      pick false = low'

  step_lower : (task : Task) (stack : List Form) (state : State) → EachArrives (IsLower (task_height task)) (step room forms task stack state)
  step_lower (Value (Num z)) stack state = none_lower stack (made (constant_form room z) state) 1 (omega arith)
  step_lower (Value (Var x)) stack state = (omega arith, tt)
  step_lower (Value (Un op e)) stack state = (omega arith, tt)
  step_lower (Value (Bin op e f)) stack state = (operator_height op e f, tt)
  step_lower (Value (Cond c e f)) stack state = (omega arith, tt)
  step_lower (Unary op) [] state = tt
  step_lower (Unary op) (f ∷ stack) state = none_lower stack (unary_made room op f state) 1 (omega arith)
  step_lower (Binary op) [] state = tt
  step_lower (Binary op) (g ∷ []) state = tt
  step_lower (Binary op) (g ∷ f ∷ stack) state = none_lower stack (binary_made room op f g state) 1 (omega arith)
  step_lower (Quotient d) [] state = tt
  step_lower (Quotient d) (f ∷ stack) state = none_lower stack (quotient_made room d f state) 1 (omega arith)
  step_lower (Rest d) [] state = tt
  step_lower (Rest d) (f ∷ stack) state = none_lower stack (rest_made room d f state) 1 (omega arith)
  step_lower Test [] state = tt
  step_lower Test (f ∷ stack) state = none_lower stack (as_value room (tested f state)) 1 (omega arith)
  step_lower (AndThen e) [] state = tt
  step_lower (AndThen e) (f ∷ stack) state =
      by_test_lower f state (todo (Value e ∷ Test ∷ []) stack) (todo [] (test_form room false ∷ stack)) (2 + expression_height e) (omega arith) (omega arith)
  step_lower (OrElse e) [] state = tt
  step_lower (OrElse e) (f ∷ stack) state =
      by_test_lower f state (todo [] (test_form room true ∷ stack)) (todo (Value e ∷ Test ∷ []) stack) (2 + expression_height e) (omega arith) (omega arith)
  step_lower (Choose e g) [] state = tt
  step_lower (Choose e g) (f ∷ stack) state =
      by_test_lower f state (todo (Value e ∷ []) stack) (todo (Value g ∷ []) stack) (1 + expression_height e + expression_height g) (omega arith) (omega arith)

module _ (room : ℕ) (graph : FlowGraph) where
  abbrev IsBelow : ℕ → Path Move → Type 0
  IsBelow n path = move_height graph path.value < n

  entered_by_below : (left : ℕ) (o : Option Operation) (forms : List Form) (state : State) (n : ℕ) → operation_height (node_height graph left) o < n
      → EachArrives (IsBelow n) (entered_by room graph left o forms state)
  entered_by_below left None forms state n low = tt
  entered_by_below left (Some (Set x e next)) forms state n low = (omega arith, tt)
  entered_by_below left (Some (Branch e first second)) forms state n low = (omega arith, tt)
  entered_by_below left (Some (Mark mark next)) forms state n low = (omega arith, tt)
  entered_by_below left (Some (Return e)) forms state n low = (omega arith, tt)

  pub entered_below : (left node : ℕ) (forms : List Form) (state : State) (n : ℕ) → node_height graph left node < n
      → EachArrives (IsBelow n) (entered room graph left node forms state)
  entered_below zero node forms state n low = tt
  entered_below (suc left) node forms state n low = entered_by_below left (operation_at graph node) forms state n low

  either_below : (left first second : ℕ) (test : Bool) (forms : List Form) (state : State)
      → EachArrives (IsBelow (1 + node_height graph left first + node_height graph left second)) (entered room graph left (cond test first second) forms state)
  either_below left first second true forms state = entered_below left first forms state _ (omega arith)
  either_below left first second false forms state = entered_below left second forms state _ (omega arith)

  used_below : (left : ℕ) (goal : Goal) (forms stack : List Form) (state : State)
      → EachArrives (IsBelow (goal_height (node_height graph left) goal)) (used room graph left goal forms stack state)
  used_below left goal forms [] state = tt
  used_below left (ToSet x next) forms (f ∷ stack) state = entered_below left next (set forms x f) state _ (omega arith)
  used_below left (ToBranch first second) forms (f ∷ stack) state =
      onward_all (IsBelow (1 + node_height graph left first + node_height graph left second)) (tested f state)
      (λ test. entered room graph left (cond test first second) forms) (λ test next. either_below left first second test forms next)
  used_below left ToReturn forms (f ∷ stack) state = (omega arith, tt)
  used_below left ToHold forms (f ∷ stack) state = onward_all (IsBelow 1) (tested f state) (only_where (Ends holding)) pick
    where
      pick : (test : Bool) (next : State) → EachArrives (IsBelow 1) (only_where (Ends holding) test next)
      pick true next = (omega arith, tt)
      pick false next = tt

  task_below : (p : Pending) (tasks : List Task) (state : State)
      → EachArrives (IsBelow (tasks_height tasks + goal_height (node_height graph p.left) p.goal)) (advanced_by room graph p tasks state)
  task_below p [] state =
      let none : 0 + goal_height (node_height graph p.left) p.goal ≡ goal_height (node_height graph p.left) p.goal = omega arith in
      rw none (used_below p.left p.goal p.forms p.stack state)
  task_below p (task ∷ tasks) state =
      onward_each (λ t next. gives (Goes (with_todo room graph p tasks t)) next) (IsLower room p.forms (task_height task))
      (IsBelow (task_height task + tasks_height tasks + goal_height (node_height graph p.left) p.goal)) (step room p.forms task p.stack state)
      (λ path low. (let h = height_append path.value.tasks tasks in omega arith, tt)) (step_lower room p.forms task p.stack state)

  falls : (p : Pending) (state : State) → EachArrives (IsBelow (pending_height graph p)) (advanced room graph p state)
  falls p state = task_below p p.tasks state

-- ---- a step leaves at most three moves

length_both : {A : Type 0} (v w : Walk A) → length (v ++ w) ≡ length v + length w
length_both [] w = omega arith
length_both (x ∷ v) w = let h = length_both v w in omega arith

module _ {A : Type 0} where
  decided_few : (holds : Bool) (value : A) (state : State) → length (decided holds value state) ≤ 1
  decided_few true value state = omega arith
  decided_few false value state = omega arith

  joining_few : (none : Bool) (row : Row) (value : A) (state : State) → length (joining none row value state) ≤ 1
  joining_few true row value state = decided_few (holds_alone row) value state
  joining_few false row value state = omega arith

  tight_few : (o : Option Row) (value : A) (state : State) → length (joined_tight o value state) ≤ 1
  tight_few None value state = omega arith
  tight_few (Some row) value state = joining_few (are_zeros row.coefs) row value state

  split_few : (options : List (Sign × A)) (f : Form) (state : State) → length (split options f state) ≤ length options
  split_few [] f state = omega arith
  split_few (option ∷ options) f state =
      let both = length_both (joined (sign_row option.0 f) option.1 state) (split options f state) in
      let here = tight_few (tight_fitting (sign_row option.0 f)) option.1 state in
      let others = split_few options f state in
      omega arith

module _ {A B : Type 0} where
  onward_few : (w : Walk A) (next : A → State → Walk B) → ((a : A) (s : State) → length (next a s) ≤ 1) → length (onward w next) ≤ length w
  onward_few [] next few = omega arith
  onward_few (Arrives p ∷ w) next few =
      let both = length_both (next p.value p.state) (onward w next) in
      let here = few p.value p.state in
      let others = onward_few w next few in
      omega arith
  onward_few (Stops l ∷ w) next few = let others = onward_few w next few in omega arith

  onward_short : (n : ℕ) (w : Walk A) (next : A → State → Walk B) → length w ≤ 1 → 1 ≤ n → ((a : A) (s : State) → length (next a s) ≤ n)
      → length (onward w next) ≤ n
  onward_short n [] next short some few = omega arith
  onward_short n (Arrives p ∷ []) next short some few =
      let both = length_both (next p.value p.state) [] in
      let here = few p.value p.state in
      omega arith
  onward_short n (Stops l ∷ []) next short some few = omega arith
  onward_short n (x ∷ y ∷ w) next short some few = absurd (omega arith)

all_joined_few : {A : Type 0} (rows : List Row) (value : A) (state : State) → length (all_joined rows value state) ≤ 1
all_joined_few [] value state = omega arith
all_joined_few (row ∷ rows) value state =
    onward_short 1 (joined row (tt {0}) state) (λ _ next. all_joined rows value next) (tight_few (tight_fitting row) (tt {0}) state) (omega arith)
    (λ a s. all_joined_few rows value s)

judged_few : (o : Option Form) (state : State) → length (judged o state) ≤ 1
judged_few None state = omega arith
judged_few (Some f) state = omega arith

made_few : (f : Form) (state : State) → length (made f state) ≤ 1
made_few f state = judged_few (fitting f) state

tested_few : (none : Bool) (f : Form) (state : State) → length (tested_by none f state) ≤ 3
tested_few true f state = omega arith
tested_few false f state = split_few nonzero_signs f state

negated_few : (none : Bool) (f : Form) (state : State) → length (negated_by none f state) ≤ 3
negated_few true f state = omega arith
negated_few false f state = split_few zero_signs f state

product_few : (o : Option Form) (state : State) → length (product_made o state) ≤ 1
product_few None state = omega arith
product_few (Some f) state = made_few f state

module _ (room : ℕ) where
  value_few : (walk : Walk Bool) → length (as_value room walk) ≤ length walk
  value_few walk = onward_few walk (λ test state. gives (test_form room test) state) (λ test state. omega arith)

  compared_few : (options : List (Sign × Bool)) (f g : Form) (state : State) → length options ≤ 3 → length (compared room options f g state) ≤ 3
  compared_few options f g state few =
      onward_short 3 (made (difference_of f g) state) (λ d next. as_value room (split options d next)) (made_few (difference_of f g) state) (omega arith)
      (λ d next. let h = value_few (split options d next) in let k = split_few options d next in omega arith)

  unary_few : (op : UnOp) (f : Form) (state : State) → length (unary_made room op f state) ≤ 3
  unary_few Plus f state = omega arith
  unary_few Minus f state = let h = made_few (multiple_of (negsuc 0) f) state in omega arith
  unary_few Not f state = let h = value_few (negated f state) in let k = negated_few (is_constant f) f state in omega arith

  binary_few : (op : BinOp) (f g : Form) (state : State) → length (binary_made room op f g state) ≤ 3
  binary_few Mul f g state = let h = product_few (product_of f g) state in omega arith
  binary_few Div f g state = omega arith
  binary_few Rem f g state = omega arith
  binary_few Add f g state = let h = made_few (sum_of f g) state in omega arith
  binary_few Sub f g state = let h = made_few (difference_of f g) state in omega arith
  binary_few Less f g state = compared_few negative_signs f g state (omega arith)
  binary_few LessEq f g state = compared_few not_positive_signs f g state (omega arith)
  binary_few Greater f g state = compared_few positive_signs f g state (omega arith)
  binary_few GreaterEq f g state = compared_few not_negative_signs f g state (omega arith)
  binary_few Equal f g state = compared_few zero_signs f g state (omega arith)
  binary_few NotEqual f g state = compared_few nonzero_signs f g state (omega arith)
  binary_few And f g state = omega arith
  binary_few Or f g state = omega arith

  ways_few : (d : ℤ) (f quotient rest : Form) (state : State) → length (two_ways d f quotient rest state) ≤ 3
  ways_few d f quotient rest state =
      let both = length_both (all_joined (rows_from_zero d f rest) (parts quotient rest) state)
      (all_joined (rows_below_zero d f rest) (parts quotient rest) state) in
      let first = all_joined_few (rows_from_zero d f rest) (parts quotient rest) state in
      let second = all_joined_few (rows_below_zero d f rest) (parts quotient rest) state in
      omega arith

  divided_few : (test : Bool) (d : ℤ) (f : Form) (state : State) → length (divided_by room test d f state) ≤ 3
  divided_few false d f state = omega arith
  divided_few true d f state =
      onward_short 3 (made (multiple_of d (unknown room state)) (with_column state)) _ (made_few (multiple_of d (unknown room state)) (with_column state))
      (omega arith)
      (λ whole next. onward_short 3 (made (difference_of f whole) next) _ (made_few (difference_of f whole) next) (omega arith)
      (λ rest last. ways_few d f (unknown room state) rest last))

  parted_few : (none one : Bool) (d : ℤ) (f : Form) (state : State) → length (parted_by room none one d f state) ≤ 3
  parted_few true one d f state = omega arith
  parted_few false true d f state = omega arith
  parted_few false false d f state = divided_few (ltb state.columns room) d f state

  quotient_few : (d : ℤ) (f : Form) (state : State) → length (quotient_made room d f state) ≤ 3
  quotient_few d f state =
      let h : length (quotient_made room d f state) ≤ length (parted room d f state) = onward_few (parted room d f state)
      (λ both last. gives both.quotient last) (λ p s. omega arith) in
      let k = parted_few (is_constant f) (eqb (unsigned_abs d) 1) d f state in
      omega arith

  rest_few : (d : ℤ) (f : Form) (state : State) → length (rest_made room d f state) ≤ 3
  rest_few d f state =
      let h : length (rest_made room d f state) ≤ length (parted room d f state) = onward_few (parted room d f state) (λ both last. gives both.rest last)
      (λ p s. omega arith) in
      let k = parted_few (is_constant f) (eqb (unsigned_abs d) 1) d f state in
      omega arith

module _ (room : ℕ) (forms : List Form) where
  done_few : (stack : List Form) (walk : Walk Form) → length walk ≤ 3 → length (done room forms stack walk) ≤ 3
  done_few stack walk few =
      let h : length (done room forms stack walk) ≤ length walk = onward_few walk (λ form state. gives (todo [] (form ∷ stack)) state)
      (λ form state. omega arith) in
      omega arith

  by_test_few : (f : Form) (state : State) (one other : Todo) → length (by_test room forms f state one other) ≤ 3
  by_test_few f state one other =
      let h : length (by_test room forms f state one other) ≤ length (tested f state) =
      onward_few (tested f state) (λ test next. gives (cond test one other) next) (λ test next. omega arith) in
      let k = tested_few (is_constant f) f state in
      omega arith

  step_few : (task : Task) (stack : List Form) (state : State) → length (step room forms task stack state) ≤ 3
  step_few (Value (Num z)) stack state = done_few stack (made (constant_form room z) state) (let h = made_few (constant_form room z) state in omega arith)
  step_few (Value (Var x)) stack state = omega arith
  step_few (Value (Un op e)) stack state = omega arith
  step_few (Value (Bin op e f)) stack state = omega arith
  step_few (Value (Cond c e f)) stack state = omega arith
  step_few (Unary op) [] state = omega arith
  step_few (Unary op) (f ∷ stack) state = done_few stack (unary_made room op f state) (unary_few room op f state)
  step_few (Binary op) [] state = omega arith
  step_few (Binary op) (g ∷ []) state = omega arith
  step_few (Binary op) (g ∷ f ∷ stack) state = done_few stack (binary_made room op f g state) (binary_few room op f g state)
  step_few (Quotient d) [] state = omega arith
  step_few (Quotient d) (f ∷ stack) state = done_few stack (quotient_made room d f state) (quotient_few room d f state)
  step_few (Rest d) [] state = omega arith
  step_few (Rest d) (f ∷ stack) state = done_few stack (rest_made room d f state) (rest_few room d f state)
  step_few Test [] state = omega arith
  step_few Test (f ∷ stack) state =
      done_few stack (as_value room (tested f state)) (let h = value_few room (tested f state) in let k = tested_few (is_constant f) f state in omega arith)
  step_few (AndThen e) [] state = omega arith
  step_few (AndThen e) (f ∷ stack) state = by_test_few f state (todo (Value e ∷ Test ∷ []) stack) (todo [] (test_form room false ∷ stack))
  step_few (OrElse e) [] state = omega arith
  step_few (OrElse e) (f ∷ stack) state = by_test_few f state (todo [] (test_form room true ∷ stack)) (todo (Value e ∷ Test ∷ []) stack)
  step_few (Choose e g) [] state = omega arith
  step_few (Choose e g) (f ∷ stack) state = by_test_few f state (todo (Value e ∷ []) stack) (todo (Value g ∷ []) stack)

module _ (room : ℕ) (graph : FlowGraph) where
  entered_by_few : (left : ℕ) (o : Option Operation) (forms : List Form) (state : State) → length (entered_by room graph left o forms state) ≤ 1
  entered_by_few left None forms state = omega arith
  entered_by_few left (Some (Set x e next)) forms state = omega arith
  entered_by_few left (Some (Branch e first second)) forms state = omega arith
  entered_by_few left (Some (Mark mark next)) forms state = omega arith
  entered_by_few left (Some (Return e)) forms state = omega arith

  entered_few : (left node : ℕ) (forms : List Form) (state : State) → length (entered room graph left node forms state) ≤ 1
  entered_few zero node forms state = omega arith
  entered_few (suc left) node forms state = entered_by_few left (operation_at graph node) forms state

  used_few : (left : ℕ) (goal : Goal) (forms stack : List Form) (state : State) → length (used room graph left goal forms stack state) ≤ 3
  used_few left goal forms [] state = omega arith
  used_few left (ToSet x next) forms (f ∷ stack) state = let h = entered_few left next (set forms x f) state in omega arith
  used_few left (ToBranch first second) forms (f ∷ stack) state =
      let h = onward_few (tested f state) (λ test. entered room graph left (cond test first second) forms)
      (λ test next. entered_few left (cond test first second) forms next) in
      let k = tested_few (is_constant f) f state in
      omega arith
  used_few left ToReturn forms (f ∷ stack) state = omega arith
  used_few left ToHold forms (f ∷ stack) state =
      let h = onward_few (tested f state) (only_where (Ends holding)) pick in
      let k = tested_few (is_constant f) f state in
      omega arith
    where
      pick : (test : Bool) (next : State) → length (only_where (Ends holding) test next) ≤ 1
      pick true next = omega arith
      pick false next = omega arith

  task_few : (p : Pending) (tasks : List Task) (state : State) → length (advanced_by room graph p tasks state) ≤ 3
  task_few p [] state = used_few p.left p.goal p.forms p.stack state
  task_few p (task ∷ tasks) state =
      let h : length (advanced_by room graph p (task ∷ tasks) state) ≤ length (step room p.forms task p.stack state) =
      onward_few (step room p.forms task p.stack state) (λ t next. gives (Goes (with_todo room graph p tasks t)) next) (λ t next. omega arith) in
      let k = step_few room p.forms task p.stack state in
      omega arith

  -- ---- weights

  abbrev times : ℕ → ℕ → ℕ
  times zero n = 0
  times (suc k) n = n + times k n

  pub four_positive : (n : ℕ) → 0 < four n
  four_positive zero = omega arith
  four_positive (suc n) = let h = four_positive n in omega arith

  four_grows : (m n : ℕ) → m ≤ n → four m ≤ four n
  four_grows zero n le = let k = four_positive n in omega arith
  four_grows (suc m) zero le = absurd (omega arith)
  four_grows (suc m) (suc n) le = let k = four_grows m n (omega arith) in omega arith

  weight_by : (n : ℕ) (v : Walk Move) → EachArrives (λ path. move_height graph path.value < suc n) v → (k : ℕ) → length v ≤ k
      → weights graph v ≤ times k (four n)
  weight_by n [] low k few = omega arith
  weight_by n (x ∷ v) low zero few = absurd (omega arith)
  weight_by n (Arrives p ∷ v) low (suc k) few =
      let below : move_height graph p.value < suc n = low.0 in
      let here : four (move_height graph p.value) ≤ four n = four_grows (move_height graph p.value) n (omega arith) in
      let others = weight_by n v low.1 k (omega arith) in
      omega arith
  weight_by n (Stops l ∷ v) low (suc k) few =
      let some = four_positive n in
      let others = weight_by n v low k (omega arith) in
      omega arith

  goal_positive : (heights : ℕ → ℕ) (goal : Goal) → 0 < goal_height heights goal
  goal_positive heights (ToSet x next) = omega arith
  goal_positive heights (ToBranch first second) = omega arith
  goal_positive heights ToReturn = omega arith
  goal_positive heights ToHold = omega arith

  lower_weights : (n : ℕ) (v : Walk Move) → 0 < n → EachArrives (λ path. move_height graph path.value < n) v → length v ≤ 3 → weights graph v < four n
  lower_weights zero v some low few = absurd (omega arith)
  lower_weights (suc n) v some low few = let all = weight_by n v low 3 few in let one = four_positive n in omega arith

  pub step_weights : (p : Pending) (state : State) → weights graph (advanced room graph p state) < four (pending_height graph p)
  step_weights p state =
      let some = goal_positive (node_height graph p.left) p.goal in
      lower_weights (pending_height graph p) (advanced room graph p state) (omega arith) (falls room graph p state) (task_few p p.tasks state)

  pub weights_both : (v w : Walk Move) → weights graph (v ++ w) ≡ weights graph v + weights graph w
  weights_both [] w = omega arith
  weights_both (arrival ∷ v) w = let h = weights_both v w in omega arith

  -- the measure of the search falls
  pub search_ends : (p : Pending) (state : State) (work : Walk Move)
      → weights graph (advanced room graph p state ++ work) < weights graph (Arrives (record { state = state; value = Goes p }) ∷ work)
  search_ends p state work =
      let step = step_weights p state in
      let both = weights_both (advanced room graph p state) work in
      omega arith
