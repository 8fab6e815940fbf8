-- A step reads no row: from a state with more rows in front it does the same, with these rows in front.
use Rattle.std.proofs.Common.{◌≡◌, ℕ, zero, suc, Bool, true, false, cond, List, [], ◌∷◌, ◌++◌, set, Option, Some, None, refl, sym, ap, ◌∙◌, append_assoc}
use Rattle.std.specs.Prelude.{ℤ, negsuc, ltb, eqb, unsigned_abs}
use Rattle.c_ast.specs.declared.expr.UnOp.{UnOp}
use Rattle.c_ast.specs.declared.expr.UnOp.TheVariants.{Plus, Minus, Not}
use Rattle.c_ast.specs.declared.expr.BinOp.{BinOp}
use Rattle.c_ast.specs.declared.expr.BinOp.TheVariants.{Mul, Div, Rem, Add, Sub, Less, LessEq, Greater, GreaterEq, Equal, NotEqual, And, Or}
use Rattle.c_ast.specs.Tree.{Num, Var, Un, Bin, Cond}
use Rattle.lin_terms.specs.declared.form.Form.{Form}
use Rattle.lin_terms.specs.declared.row.Row.{Row}
use Rattle.lin_terms.specs.declared.sign.Sign.{Sign}
use Rattle.lin_terms.specs.Form.{are_zeros, is_constant, sum_of, multiple_of, difference_of, product_of, constant_form}
use Rattle.lin_terms.specs.Makes.{fitting}
use Rattle.lin_terms.specs.Sign.{sign_row, tight_fitting}
use Rattle.flow_graph.specs.Operation.{Operation, Set, Branch, Mark, Return}
use Rattle.flow_graph.specs.FlowGraph.{FlowGraph, operation_at}
use Rattle.sym_paths.specs.Walk.{State, Arrives, Stops, Walk, gives, onward, behind, arrival_behind, walk_behind}
use Rattle.sym_paths.specs.Rows.{holds_alone, decided, joining, joined_tight, joined, all_joined, split, judged, made}
use Rattle.sym_paths.specs.Symbolic.{nonzero_signs, zero_signs, negative_signs, not_positive_signs, positive_signs, not_negative_signs, tested_by, tested, negated_by, negated, Parts, parts, rows_from_zero, rows_below_zero, two_ways, with_column, unknown, divided_by, parted_by, parted, product_made, test_form, as_value, compared, unary_made, binary_made, quotient_made, rest_made}
use Rattle.sym_paths.specs.Machine.{Task, Value, Unary, Binary, Quotient, Rest, Test, AndThen, OrElse, Choose, Todo, todo, done, by_test, step, Goal, ToSet, ToBranch, ToReturn, ToHold, only_where, holding, Pending, Goes, Ends, entered_by, entered, used, with_todo, advanced_by, advanced}

module _ (front : List Row) where
  append_behind : {A : Type 0} (v w : Walk A) → walk_behind front (v ++ w) ≡ walk_behind front v ++ walk_behind front w
  append_behind [] w = refl
  append_behind {A} (x ∷ v) w = ap (λ (t : Walk A). arrival_behind front x ∷ t) (append_behind v w)

  pub onward_behind : {A B : Type 0} (w : Walk A) (next : A → State → Walk B) → ((a : A) (s : State) → walk_behind front (next a s) ≡ next a (behind front s))
      → walk_behind front (onward w next) ≡ onward (walk_behind front w) next
  onward_behind [] next same = refl
  onward_behind {A} {B} (Arrives p ∷ w) next same =
      append_behind (next p.value p.state) (onward w next)
      ∙ ap (λ (t : Walk B). t ++ walk_behind front (onward w next)) (same p.value p.state)
      ∙ ap (λ (t : Walk B). next p.value (behind front p.state) ++ t) (onward_behind w next same)
  onward_behind {A} {B} (Stops l ∷ w) next same = ap (λ (t : Walk B). Stops l ∷ t) (onward_behind w next same)

  -- a walk that does so, and then goes on
  then_behind : {A B : Type 0} (w w' : Walk A) (next : A → State → Walk B) → walk_behind front w ≡ w'
      → ((a : A) (s : State) → walk_behind front (next a s) ≡ next a (behind front s)) → walk_behind front (onward w next) ≡ onward w' next
  then_behind {A} {B} w w' next is same = onward_behind w next same ∙ ap (λ (t : Walk A). onward t next) is

  module _ {A : Type 0} where
    decided_behind : (holds : Bool) (value : A) (state : State) → walk_behind front (decided holds value state) ≡ decided holds value (behind front state)
    decided_behind true value state = refl
    decided_behind false value state = refl

    arrives_with : (rows other : List Row) (columns : ℕ) (value : A) → rows ≡ other
        → gives value (record { rows = rows; columns = columns }) ≡ gives value (record { rows = other; columns = columns })
    arrives_with rows other columns value is = ap (λ (t : List Row). gives value (record { rows = t; columns = columns })) is

    joining_behind : (none : Bool) (row : Row) (value : A) (state : State)
        → walk_behind front (joining none row value state) ≡ joining none row value (behind front state)
    joining_behind true row value state = decided_behind (holds_alone row) value state
    joining_behind false row value state =
        arrives_with (front ++ (state.rows ++ row ∷ []))
        ((front ++ state.rows) ++ row ∷ []) state.columns value (sym (append_assoc front state.rows (row ∷ [])))

    tight_behind : (o : Option Row) (value : A) (state : State) → walk_behind front (joined_tight o value state) ≡ joined_tight o value (behind front state)
    tight_behind None value state = refl
    tight_behind (Some row) value state = joining_behind (are_zeros row.coefs) row value state

    joined_behind : (row : Row) (value : A) (state : State) → walk_behind front (joined row value state) ≡ joined row value (behind front state)
    joined_behind row value state = tight_behind (tight_fitting row) value state

    split_behind : (options : List (Sign × A)) (f : Form) (state : State) → walk_behind front (split options f state) ≡ split options f (behind front state)
    split_behind [] f state = refl
    split_behind (option ∷ options) f state =
        append_behind (joined (sign_row option.0 f) option.1 state) (split options f state)
        ∙ ap (λ (t : Walk A). t ++ walk_behind front (split options f state)) (joined_behind (sign_row option.0 f) option.1 state)
        ∙ ap (λ (t : Walk A). joined (sign_row option.0 f) option.1 (behind front state) ++ t) (split_behind options f state)

  all_joined_behind : {A : Type 0} (rows : List Row) (value : A) (state : State)
      → walk_behind front (all_joined rows value state) ≡ all_joined rows value (behind front state)
  all_joined_behind [] value state = refl
  all_joined_behind (row ∷ rows) value state =
      then_behind (joined row (tt {0}) state) (joined row (tt {0}) (behind front state)) (λ _ next. all_joined rows value next)
      (joined_behind row (tt {0}) state) (λ a s. all_joined_behind rows value s)

  judged_behind : (o : Option Form) (state : State) → walk_behind front (judged o state) ≡ judged o (behind front state)
  judged_behind None state = refl
  judged_behind (Some f) state = refl

  made_behind : (f : Form) (state : State) → walk_behind front (made f state) ≡ made f (behind front state)
  made_behind f state = judged_behind (fitting f) state

  tested_by_behind : (none : Bool) (f : Form) (state : State) → walk_behind front (tested_by none f state) ≡ tested_by none f (behind front state)
  tested_by_behind true f state = refl
  tested_by_behind false f state = split_behind nonzero_signs f state

  pub tested_behind : (f : Form) (state : State) → walk_behind front (tested f state) ≡ tested f (behind front state)
  tested_behind f state = tested_by_behind (is_constant f) f state

  negated_behind : (none : Bool) (f : Form) (state : State) → walk_behind front (negated_by none f state) ≡ negated_by none f (behind front state)
  negated_behind true f state = refl
  negated_behind false f state = split_behind zero_signs f state

  product_behind : (o : Option Form) (state : State) → walk_behind front (product_made o state) ≡ product_made o (behind front state)
  product_behind None state = refl
  product_behind (Some f) state = made_behind f state

  module _ (room : ℕ) where
    value_behind : (w w' : Walk Bool) → walk_behind front w ≡ w' → walk_behind front (as_value room w) ≡ as_value room w'
    value_behind w w' is = then_behind w w' (λ test state. gives (test_form room test) state) is (λ test state. refl)

    compared_behind : (options : List (Sign × Bool)) (f g : Form) (state : State)
        → walk_behind front (compared room options f g state) ≡ compared room options f g (behind front state)
    compared_behind options f g state =
        then_behind (made (difference_of f g) state) (made (difference_of f g) (behind front state)) (λ d next. as_value room (split options d next))
        (made_behind (difference_of f g) state)
        (λ d next. value_behind (split options d next) (split options d (behind front next)) (split_behind options d next))

    unary_behind : (op : UnOp) (f : Form) (state : State) → walk_behind front (unary_made room op f state) ≡ unary_made room op f (behind front state)
    unary_behind Plus f state = refl
    unary_behind Minus f state = made_behind (multiple_of (negsuc 0) f) state
    unary_behind Not f state = value_behind (negated f state) (negated f (behind front state)) (negated_behind (is_constant f) f state)

    binary_behind : (op : BinOp) (f g : Form) (state : State) → walk_behind front (binary_made room op f g state) ≡ binary_made room op f g (behind front state)
    binary_behind Mul f g state = product_behind (product_of f g) state
    binary_behind Div f g state = refl
    binary_behind Rem f g state = refl
    binary_behind Add f g state = made_behind (sum_of f g) state
    binary_behind Sub f g state = made_behind (difference_of f g) state
    binary_behind Less f g state = compared_behind negative_signs f g state
    binary_behind LessEq f g state = compared_behind not_positive_signs f g state
    binary_behind Greater f g state = compared_behind positive_signs f g state
    binary_behind GreaterEq f g state = compared_behind not_negative_signs f g state
    binary_behind Equal f g state = compared_behind zero_signs f g state
    binary_behind NotEqual f g state = compared_behind nonzero_signs f g state
    binary_behind And f g state = refl
    binary_behind Or f g state = refl

    ways_behind : (d : ℤ) (f quotient rest : Form) (state : State)
        → walk_behind front (two_ways d f quotient rest state) ≡ two_ways d f quotient rest (behind front state)
    ways_behind d f quotient rest state =
        append_behind (all_joined (rows_from_zero d f rest) (parts quotient rest) state) (all_joined (rows_below_zero d f rest) (parts quotient rest) state)
        ∙ ap (λ (t : Walk Parts). t ++ walk_behind front (all_joined (rows_below_zero d f rest) (parts quotient rest) state))
        (all_joined_behind (rows_from_zero d f rest) (parts quotient rest) state)
        ∙ ap (λ (t : Walk Parts). all_joined (rows_from_zero d f rest) (parts quotient rest) (behind front state) ++ t)
        (all_joined_behind (rows_below_zero d f rest) (parts quotient rest) state)

    divided_behind : (test : Bool) (d : ℤ) (f : Form) (state : State)
        → walk_behind front (divided_by room test d f state) ≡ divided_by room test d f (behind front state)
    divided_behind false d f state = refl
    divided_behind true d f state =
        then_behind (made (multiple_of d (unknown room state)) (with_column state))
        (made (multiple_of d (unknown room state)) (with_column (behind front state)))
        (λ whole next. onward (made (difference_of f whole) next) (λ rest last. two_ways d f (unknown room state) rest last))
        (made_behind (multiple_of d (unknown room state)) (with_column state))
        (λ whole next. then_behind (made (difference_of f whole) next) (made (difference_of f whole) (behind front next))
        (λ rest last. two_ways d f (unknown room state) rest last) (made_behind (difference_of f whole) next)
        (λ rest last. ways_behind d f (unknown room state) rest last))

    parted_behind : (none one : Bool) (d : ℤ) (f : Form) (state : State)
        → walk_behind front (parted_by room none one d f state) ≡ parted_by room none one d f (behind front state)
    parted_behind true one d f state = refl
    parted_behind false true d f state = refl
    parted_behind false false d f state = divided_behind (ltb state.columns room) d f state

    quotient_behind : (d : ℤ) (f : Form) (state : State) → walk_behind front (quotient_made room d f state) ≡ quotient_made room d f (behind front state)
    quotient_behind d f state =
        then_behind (parted room d f state) (parted room d f (behind front state)) (λ both last. gives both.quotient last)
        (parted_behind (is_constant f) (eqb (unsigned_abs d) 1) d f state) (λ p s. refl)

    rest_behind : (d : ℤ) (f : Form) (state : State) → walk_behind front (rest_made room d f state) ≡ rest_made room d f (behind front state)
    rest_behind d f state =
        then_behind (parted room d f state) (parted room d f (behind front state)) (λ both last. gives both.rest last)
        (parted_behind (is_constant f) (eqb (unsigned_abs d) 1) d f state) (λ p s. refl)

  module _ (room : ℕ) (forms : List Form) where
    done_behind : (stack : List Form) (w w' : Walk Form) → walk_behind front w ≡ w' → walk_behind front (done room forms stack w) ≡ done room forms stack w'
    done_behind stack w w' is = then_behind w w' (λ form state. gives (todo [] (form ∷ stack)) state) is (λ form state. refl)

    by_test_behind : (f : Form) (state : State) (one other : Todo)
        → walk_behind front (by_test room forms f state one other) ≡ by_test room forms f (behind front state) one other
    by_test_behind f state one other =
        then_behind (tested f state) (tested f (behind front state)) (λ test next. gives (cond test one other) next) (tested_behind f state) (λ test next. refl)

    step_behind : (task : Task) (stack : List Form) (state : State)
        → walk_behind front (step room forms task stack state) ≡ step room forms task stack (behind front state)
    step_behind (Value (Num z)) stack state = done_behind stack (made (constant_form room z) state) _ (made_behind (constant_form room z) state)
    step_behind (Value (Var x)) stack state = refl
    step_behind (Value (Un op e)) stack state = refl
    step_behind (Value (Bin op e f)) stack state = refl
    step_behind (Value (Cond c e f)) stack state = refl
    step_behind (Unary op) [] state = refl
    step_behind (Unary op) (f ∷ stack) state = done_behind stack (unary_made room op f state) _ (unary_behind room op f state)
    step_behind (Binary op) [] state = refl
    step_behind (Binary op) (g ∷ []) state = refl
    step_behind (Binary op) (g ∷ f ∷ stack) state = done_behind stack (binary_made room op f g state) _ (binary_behind room op f g state)
    step_behind (Quotient d) [] state = refl
    step_behind (Quotient d) (f ∷ stack) state = done_behind stack (quotient_made room d f state) _ (quotient_behind room d f state)
    step_behind (Rest d) [] state = refl
    step_behind (Rest d) (f ∷ stack) state = done_behind stack (rest_made room d f state) _ (rest_behind room d f state)
    step_behind Test [] state = refl
    step_behind Test (f ∷ stack) state =
        done_behind stack (as_value room (tested f state)) _ (value_behind room (tested f state) (tested f (behind front state)) (tested_behind f state))
    step_behind (AndThen e) [] state = refl
    step_behind (AndThen e) (f ∷ stack) state = by_test_behind f state (todo (Value e ∷ Test ∷ []) stack) (todo [] (test_form room false ∷ stack))
    step_behind (OrElse e) [] state = refl
    step_behind (OrElse e) (f ∷ stack) state = by_test_behind f state (todo [] (test_form room true ∷ stack)) (todo (Value e ∷ Test ∷ []) stack)
    step_behind (Choose e g) [] state = refl
    step_behind (Choose e g) (f ∷ stack) state = by_test_behind f state (todo (Value e ∷ []) stack) (todo (Value g ∷ []) stack)

  module _ (room : ℕ) (graph : FlowGraph) where
    entered_by_behind : (left : ℕ) (o : Option Operation) (forms : List Form) (state : State)
        → walk_behind front (entered_by room graph left o forms state) ≡ entered_by room graph left o forms (behind front state)
    entered_by_behind left None forms state = refl
    entered_by_behind left (Some (Set x e next)) forms state = refl
    entered_by_behind left (Some (Branch e first second)) forms state = refl
    entered_by_behind left (Some (Mark mark next)) forms state = refl
    entered_by_behind left (Some (Return e)) forms state = refl

    pub entered_behind : (left node : ℕ) (forms : List Form) (state : State)
        → walk_behind front (entered room graph left node forms state) ≡ entered room graph left node forms (behind front state)
    entered_behind zero node forms state = refl
    entered_behind (suc left) node forms state = entered_by_behind left (operation_at graph node) forms state

    used_behind : (left : ℕ) (goal : Goal) (forms stack : List Form) (state : State)
        → walk_behind front (used room graph left goal forms stack state) ≡ used room graph left goal forms stack (behind front state)
    used_behind left goal forms [] state = refl
    used_behind left (ToSet x next) forms (f ∷ stack) state = entered_behind left next (set forms x f) state
    used_behind left (ToBranch first second) forms (f ∷ stack) state =
        then_behind (tested f state) (tested f (behind front state)) (λ test. entered room graph left (cond test first second) forms)
        (tested_behind f state) (λ test next. entered_behind left (cond test first second) forms next)
    used_behind left ToReturn forms (f ∷ stack) state = refl
    used_behind left ToHold forms (f ∷ stack) state =
        then_behind (tested f state) (tested f (behind front state)) (only_where (Ends holding)) (tested_behind f state) pick
      where
        pick : (test : Bool) (next : State) → walk_behind front (only_where (Ends holding) test next) ≡ only_where (Ends holding) test (behind front next)
        pick true next = refl
        pick false next = refl

    task_behind : (p : Pending) (tasks : List Task) (state : State)
        → walk_behind front (advanced_by room graph p tasks state) ≡ advanced_by room graph p tasks (behind front state)
    task_behind p [] state = used_behind p.left p.goal p.forms p.stack state
    task_behind p (task ∷ tasks) state =
        then_behind (step room p.forms task p.stack state) (step room p.forms task p.stack (behind front state))
        (λ t next. gives (Goes (with_todo room graph p tasks t)) next) (step_behind room p.forms task p.stack state) (λ t next. refl)

    pub advanced_behind : (p : Pending) (state : State) → walk_behind front (advanced room graph p state) ≡ advanced room graph p (behind front state)
    advanced_behind p state = task_behind p p.tasks state
