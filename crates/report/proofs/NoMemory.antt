-- No walk over expressions or graphs meets want of memory: only code does.
use Rattle.std.proofs.Common.{◌≡◌, ◌≢◌, ℕ, zero, suc, Bool, true, false, cond, eqb, ltb, List, [], ◌∷◌, ◌++◌, length, set, Option, Some, None, refl, ap, ◌∙◌}
use Rattle.std.specs.Prelude.{ℤ, negsuc, unsigned_abs, Result, Ok, Err}
use Rattle.c_ast.specs.declared.expr.UnOp.{UnOp}
use Rattle.c_ast.specs.declared.expr.UnOp.TheVariants.{Plus, Minus, Not}
use Rattle.c_ast.specs.declared.expr.BinOp.{BinOp}
use Rattle.c_ast.specs.declared.expr.BinOp.TheVariants.{Mul, Div, Rem, Add, Sub, Less, LessEq, Greater, GreaterEq, Equal, NotEqual, And, Or}
use Rattle.c_ast.specs.declared.place.Place.{Place}
use Rattle.c_ast.specs.Tree.{Expression, Num, Var, Un, Bin, Cond}
use Rattle.lin_terms.specs.declared.form.Form.{Form}
use Rattle.lin_terms.specs.declared.row.Row.{Row}
use Rattle.lin_terms.specs.declared.sign.Sign.{Sign}
use Rattle.lin_terms.specs.Form.{are_zeros, is_constant, sum_of, multiple_of, difference_of, product_of, constant_form}
use Rattle.lin_terms.specs.Makes.{fitting}
use Rattle.lin_terms.specs.Sign.{sign_row, tight_fitting}
use Rattle.flow_graph.specs.Operation.{Operation, Set, Branch, Mark, Return}
use Rattle.flow_graph.specs.FlowGraph.{FlowGraph, operation_at, node_after, variables_at}
use Rattle.sym_paths.specs.declared.limit.PathLimit.{PathLimit}
use Rattle.sym_paths.specs.declared.limit.PathLimit.TheVariants as limit
use Rattle.sym_paths.specs.Walk.{State, Path, Arrives, Stops, Walk, gives, more, collect, onward}
use Rattle.sym_paths.specs.Rows.{holds_alone, decided, joining, joined_tight, joined, all_joined, split, judged, made}
use Rattle.sym_paths.specs.Symbolic.{nonzero_signs, zero_signs, negative_signs, not_positive_signs, positive_signs, not_negative_signs, tested_by, tested, negated_by, negated, parts, rows_from_zero, rows_below_zero, two_ways, with_column, divisor_of, Part, both, product_made, condition, chosen, test_form, as_value, compared, unknown, divided_by, parted_by, parted, unary_made, binary_made, quotient_made, rest_made, test_made, binary_walk, symbolic}
use Rattle.sym_paths.specs.Nodes.{End, operation_walk, walk_from}
use Rattle.sym_paths.specs.Cases.{room_for, variables_from, start_forms, start_state, segment_walk, all_completed, cases_of}
use Rattle.sym_paths.specs.Condition.{where_true, condition_walk, rows_of_all, condition_cases}

-- No limit that the walk meets is want of memory.
abbrev pub Keeps : {A : Type 0} → Walk A → Type 0
Keeps [] = Unit {0}
Keeps (Arrives path ∷ walk) = Keeps walk
Keeps (Stops why ∷ walk) = (why ≢ limit.Memory) × Keeps walk

append_keeps : {A : Type 0} (v w : Walk A) → Keeps v → Keeps w → Keeps (v ++ w)
append_keeps [] w first second = second
append_keeps (Arrives path ∷ v) w first second = append_keeps v w first second
append_keeps (Stops why ∷ v) w first second = (first.0, append_keeps v w first.1 second)

onward_keeps : {A B : Type 0} (next : A → State → Walk B) (walk : Walk A) → ((value : A) (after : State) → Keeps (next value after)) → Keeps walk
    → Keeps (onward walk next)
onward_keeps next [] go keeps = tt
onward_keeps next (Arrives path ∷ walk) go keeps =
    append_keeps (next path.value path.state) (onward walk next) (go path.value path.state) (onward_keeps next walk go keeps)
onward_keeps next (Stops why ∷ walk) go keeps = (keeps.0, onward_keeps next walk go keeps.1)

collected_keeps : {A : Type 0} (n : ℕ) (walk : Walk A) (why : PathLimit) → Keeps walk → collect n walk ≡ Err why → why ≢ limit.Memory
collected_keeps n [] why keeps met = cc
collected_keeps n (Stops own ∷ walk) why keeps met = λ same. keeps.0 (let one : own ≡ why = cc in one ∙ same)
collected_keeps zero (Arrives path ∷ walk) why keeps met = λ same. cc
collected_keeps {A = A} (suc n) (Arrives path ∷ walk) why keeps met = on (collect n walk) refl met (collected_keeps n walk why keeps)
  where
    on : (later : Result (List (Path A)) PathLimit) → collect n walk ≡ later → more path later ≡ Err why
        → (collect n walk ≡ Err why → why ≢ limit.Memory) → why ≢ limit.Memory
    on (Ok paths) is met others = cc
    on (Err own) is met others = let one : own ≡ why = cc in others (is ∙ ap Err one)

-- ---- rows that join

module _ {A : Type 0} (value : A) where
  decided_keeps : (answer : Bool) (state : State) → Keeps (decided answer value state)
  decided_keeps true state = tt
  decided_keeps false state = tt

  joining_keeps : (alone : Bool) (row : Row) (state : State) → Keeps (joining alone row value state)
  joining_keeps true row state = decided_keeps (holds_alone row) state
  joining_keeps false row state = tt

  tight_keeps : (found : Option Row) (state : State) → Keeps (joined_tight found value state)
  tight_keeps None state = (λ same. cc, tt)
  tight_keeps (Some row) state = joining_keeps (are_zeros row.coefs) row state

  joined_keeps : (row : Row) (state : State) → Keeps (joined row value state)
  joined_keeps row state = tight_keeps (tight_fitting row) state

split_keeps : {A : Type 0} (options : List (Sign × A)) (form : Form) (state : State) → Keeps (split options form state)
split_keeps [] form state = tt
split_keeps (option ∷ options) form state =
    append_keeps (joined (sign_row option.0 form) option.1 state) (split options form state)
    (joined_keeps option.1 (sign_row option.0 form) state) (split_keeps options form state)

all_joined_keeps : {A : Type 0} (rows : List Row) (value : A) (state : State) → Keeps (all_joined rows value state)
all_joined_keeps [] value state = tt
all_joined_keeps (row ∷ rows) value state =
    onward_keeps (λ _ next. all_joined rows value next) (joined row (tt {0}) state) (λ _ next. all_joined_keeps rows value next)
    (joined_keeps (tt {0}) row state)

judged_keeps : (found : Option Form) (state : State) → Keeps (judged found state)
judged_keeps None state = (λ same. cc, tt)
judged_keeps (Some form) state = tt

made_keeps : (form : Form) (state : State) → Keeps (made form state)
made_keeps form state = judged_keeps (fitting form) state

-- ---- tests of a form

tested_by_keeps : (alone : Bool) (form : Form) (state : State) → Keeps (tested_by alone form state)
tested_by_keeps true form state = tt
tested_by_keeps false form state = split_keeps nonzero_signs form state

tested_keeps : (form : Form) (state : State) → Keeps (tested form state)
tested_keeps form state = tested_by_keeps (is_constant form) form state

negated_by_keeps : (alone : Bool) (form : Form) (state : State) → Keeps (negated_by alone form state)
negated_by_keeps true form state = tt
negated_by_keeps false form state = split_keeps zero_signs form state

negated_keeps : (form : Form) (state : State) → Keeps (negated form state)
negated_keeps form state = negated_by_keeps (is_constant form) form state

two_ways_keep : (divisor : ℤ) (dividend quotient left : Form) (state : State) → Keeps (two_ways divisor dividend quotient left state)
two_ways_keep divisor dividend quotient left state =
    append_keeps (all_joined (rows_from_zero divisor dividend left) (parts quotient left) state)
    (all_joined (rows_below_zero divisor dividend left) (parts quotient left) state)
    (all_joined_keeps (rows_from_zero divisor dividend left) (parts quotient left) state)
    (all_joined_keeps (rows_below_zero divisor dividend left) (parts quotient left) state)

-- ---- parts of an expression

-- The walk of a part meets no want of memory, from whatever state.
abbrev PartKeeps : Part → Type 0
PartKeeps part = (state : State) → Keeps (part state)

both_keep : (first second : Part) (make : Form → Form → State → Walk Form) → PartKeeps first → PartKeeps second
    → ((f g : Form) (state : State) → Keeps (make f g state)) → PartKeeps (both first second make)
both_keep first second make one other go state =
    onward_keeps (λ f next. onward (second next) (λ g last. make f g last)) (first state)
    (λ f next. onward_keeps (λ g last. make f g last) (second next) (λ g last. go f g last) (other next)) (one state)

product_keeps : (found : Option Form) (state : State) → Keeps (product_made found state)
product_keeps None state = (λ same. cc, tt)
product_keeps (Some form) state = made_keeps form state

condition_keeps : (part : Part) → PartKeeps part → (state : State) → Keeps (condition part state)
condition_keeps part keeps state = onward_keeps tested (part state) tested_keeps (keeps state)

chosen_keeps : (first second : Part) → PartKeeps first → PartKeeps second → (test : Bool) → PartKeeps (chosen first second test)
chosen_keeps first second one other true state = one state
chosen_keeps first second one other false state = other state

choice_keeps : (test first second : Part) → PartKeeps test → PartKeeps first → PartKeeps second
    → PartKeeps (λ state. onward (condition test state) (chosen first second))
choice_keeps test first second of_test one other state =
    onward_keeps (chosen first second) (condition test state) (chosen_keeps first second one other) (condition_keeps test of_test state)

module _ (room : ℕ) where
  as_value_keeps : (walk : Walk Bool) → Keeps walk → Keeps (as_value room walk)
  as_value_keeps walk keeps = onward_keeps (λ test state. gives (test_form room test) state) walk (λ test state. tt) keeps

  compared_keeps : (options : List (Sign × Bool)) (f g : Form) (state : State) → Keeps (compared room options f g state)
  compared_keeps options f g state =
      onward_keeps (λ d next. as_value room (split options d next)) (made (difference_of f g) state)
      (λ d next. as_value_keeps (split options d next) (split_keeps options d next)) (made_keeps (difference_of f g) state)

  divided_keeps : (test : Bool) (divisor : ℤ) (dividend : Form) (state : State) → Keeps (divided_by room test divisor dividend state)
  divided_keeps false divisor dividend state = (λ same. cc, tt)
  divided_keeps true divisor dividend state =
      onward_keeps (λ whole next. onward (made (difference_of dividend whole) next)
      (λ left last. two_ways divisor dividend (unknown room state) left last))
      (made (multiple_of divisor (unknown room state)) (with_column state))
      (λ whole next. onward_keeps (λ left last. two_ways divisor dividend (unknown room state) left last)
      (made (difference_of dividend whole) next) (λ left last. two_ways_keep divisor dividend (unknown room state) left last)
      (made_keeps (difference_of dividend whole) next))
      (made_keeps (multiple_of divisor (unknown room state)) (with_column state))

  parted_by_keeps : (alone one : Bool) (divisor : ℤ) (form : Form) (state : State) → Keeps (parted_by room alone one divisor form state)
  parted_by_keeps true one divisor form state = tt
  parted_by_keeps false true divisor form state = tt
  parted_by_keeps false false divisor form state = divided_keeps (ltb state.columns room) divisor form state

  parted_keeps : (divisor : ℤ) (form : Form) (state : State) → Keeps (parted room divisor form state)
  parted_keeps divisor form state = parted_by_keeps (is_constant form) (eqb (unsigned_abs divisor) 1) divisor form state

  unary_keeps : (op : UnOp) (form : Form) (state : State) → Keeps (unary_made room op form state)
  unary_keeps Plus form state = tt
  unary_keeps Minus form state = made_keeps (multiple_of (negsuc 0) form) state
  unary_keeps Not form state = as_value_keeps (negated form state) (negated_keeps form state)

  quotient_keeps : (divisor : ℤ) (form : Form) (state : State) → Keeps (quotient_made room divisor form state)
  quotient_keeps divisor form state =
      onward_keeps (λ both last. gives both.quotient last) (parted room divisor form state) (λ both last. tt) (parted_keeps divisor form state)

  rest_keeps : (divisor : ℤ) (form : Form) (state : State) → Keeps (rest_made room divisor form state)
  rest_keeps divisor form state =
      onward_keeps (λ both last. gives both.rest last) (parted room divisor form state) (λ both last. tt) (parted_keeps divisor form state)

  test_keeps : (part : Part) → PartKeeps part → PartKeeps (test_made room part)
  test_keeps part keeps state = as_value_keeps (condition part state) (condition_keeps part keeps state)

  constant_keeps : (test : Bool) → PartKeeps (gives (test_form room test))
  constant_keeps test state = tt

  binary_keeps : (op : BinOp) (first second : Part) (divisor : ℤ) → PartKeeps first → PartKeeps second
      → PartKeeps (binary_walk room op first second divisor)
  binary_keeps Mul first second divisor one other state =
      both_keep first second (binary_made room Mul) one other (λ f g last. product_keeps (product_of f g) last) state
  binary_keeps Div first second divisor one other state =
      onward_keeps (quotient_made room divisor) (first state) (quotient_keeps divisor) (one state)
  binary_keeps Rem first second divisor one other state =
      onward_keeps (rest_made room divisor) (first state) (rest_keeps divisor) (one state)
  binary_keeps Add first second divisor one other state =
      both_keep first second (binary_made room Add) one other (λ f g last. made_keeps (sum_of f g) last) state
  binary_keeps Sub first second divisor one other state =
      both_keep first second (binary_made room Sub) one other (λ f g last. made_keeps (difference_of f g) last) state
  binary_keeps Less first second divisor one other state =
      both_keep first second (binary_made room Less) one other (compared_keeps negative_signs) state
  binary_keeps LessEq first second divisor one other state =
      both_keep first second (binary_made room LessEq) one other (compared_keeps not_positive_signs) state
  binary_keeps Greater first second divisor one other state =
      both_keep first second (binary_made room Greater) one other (compared_keeps positive_signs) state
  binary_keeps GreaterEq first second divisor one other state =
      both_keep first second (binary_made room GreaterEq) one other (compared_keeps not_negative_signs) state
  binary_keeps Equal first second divisor one other state =
      both_keep first second (binary_made room Equal) one other (compared_keeps zero_signs) state
  binary_keeps NotEqual first second divisor one other state =
      both_keep first second (binary_made room NotEqual) one other (compared_keeps nonzero_signs) state
  binary_keeps And first second divisor one other state =
      choice_keeps first (test_made room second) (gives (test_form room false)) one (test_keeps second other) (constant_keeps false) state
  binary_keeps Or first second divisor one other state =
      choice_keeps first (gives (test_form room true)) (test_made room second) one (constant_keeps true) (test_keeps second other) state

  symbolic_keeps : (forms : List Form) (e : Expression) → PartKeeps (symbolic room forms e)
  symbolic_keeps forms (Num z) state = made_keeps (constant_form room z) state
  symbolic_keeps forms (Var x) state = tt
  symbolic_keeps forms (Un op e) state = onward_keeps (unary_made room op) (symbolic room forms e state) (unary_keeps op) (symbolic_keeps forms e state)
  symbolic_keeps forms (Bin op e f) state =
      binary_keeps op (symbolic room forms e) (symbolic room forms f) (divisor_of f) (symbolic_keeps forms e) (symbolic_keeps forms f) state
  symbolic_keeps forms (Cond c e f) state =
      choice_keeps (symbolic room forms c) (symbolic room forms e) (symbolic room forms f)
      (symbolic_keeps forms c) (symbolic_keeps forms e) (symbolic_keeps forms f) state

  -- ---- walks over a graph

  module _ (graph : FlowGraph) where
    -- The walks from nodes meet no want of memory.
    abbrev NodesKeep : (ℕ → List Form → State → Walk End) → Type 0
    NodesKeep walk = (node : ℕ) (forms : List Form) (state : State) → Keeps (walk node forms state)

    operation_keeps : (others : ℕ → List Form → State → Walk End) → NodesKeep others → (o : Option Operation) (forms : List Form) (state : State)
        → Keeps (operation_walk room graph others o forms state)
    operation_keeps others go None forms state = tt
    operation_keeps others go (Some (Set x e next)) forms state =
        onward_keeps (λ value. others next (set forms x value)) (symbolic room forms e state) (λ value after. go next (set forms x value) after)
        (symbolic_keeps forms e state)
    operation_keeps others go (Some (Branch e first second)) forms state =
        onward_keeps (λ test. others (cond test first second) forms) (condition (symbolic room forms e) state)
        (λ test after. go (cond test first second) forms after) (condition_keeps (symbolic room forms e) (symbolic_keeps forms e) state)
    operation_keeps others go (Some (Mark mark next)) forms state = tt
    operation_keeps others go (Some (Return e)) forms state =
        onward_keeps _ (symbolic room forms e state) (λ value after. tt) (symbolic_keeps forms e state)

    walk_keeps : (n : ℕ) → NodesKeep (walk_from room graph n)
    walk_keeps zero node forms state = tt
    walk_keeps (suc n) node forms state = operation_keeps (walk_from room graph n) (walk_keeps n) (operation_at graph node) forms state

-- ---- cases

segment_keeps : (graph : FlowGraph) (l : Place) → Keeps (segment_walk graph l)
segment_keeps graph l =
    let width : ℕ = length (variables_at graph l) in
    walk_keeps (room_for width) graph (suc (length graph.ops)) (node_after graph l)
    (start_forms (room_for width) (variables_at graph l) graph.vars) (start_state width)

-- The limit of a segment is not want of memory.
pub cases_keep : (graph : FlowGraph) (l : Place) (why : PathLimit) → cases_of graph l ≡ Err why → why ≢ limit.Memory
cases_keep graph l why met = on (collect 1024 (segment_walk graph l)) refl met
  where
    on : (r : Result (List (Path End)) PathLimit) → collect 1024 (segment_walk graph l) ≡ r → all_completed r ≡ Err why → why ≢ limit.Memory
    on (Ok paths) is met = cc
    on (Err own) is met =
        let one : own ≡ why = cc in collected_keeps 1024 (segment_walk graph l) why (segment_keeps graph l) (is ∙ ap Err one)

where_true_keeps : (test : Bool) (state : State) → Keeps (where_true test state)
where_true_keeps true state = tt
where_true_keeps false state = tt

condition_walk_keeps : (arity : ℕ) (e : Expression) → Keeps (condition_walk arity e)
condition_walk_keeps arity e =
    onward_keeps where_true (condition (symbolic (room_for arity) (variables_from (room_for arity) 0 arity) e) (start_state arity))
    where_true_keeps
    (condition_keeps (symbolic (room_for arity) (variables_from (room_for arity) 0 arity) e)
    (symbolic_keeps (room_for arity) (variables_from (room_for arity) 0 arity) e) (start_state arity))

-- The limit of a condition is not want of memory.
pub conditions_keep : (arity : ℕ) (e : Expression) (why : PathLimit) → condition_cases arity e ≡ Err why → why ≢ limit.Memory
conditions_keep arity e why met = on (collect 1024 (condition_walk arity e)) refl met
  where
    on : (r : Result (List (Path (Unit {0}))) PathLimit) → collect 1024 (condition_walk arity e) ≡ r → rows_of_all r ≡ Err why → why ≢ limit.Memory
    on (Ok paths) is met = cc
    on (Err own) is met =
        let one : own ≡ why = cc in collected_keeps 1024 (condition_walk arity e) why (condition_walk_keeps arity e) (is ∙ ap Err one)
