-- What walks arrive at fits: the columns are those of the start and of unknowns within the room, and the entries are small.
use Rattle.std.proofs.Common.{◌≡◌, ◌≢◌, ℕ, zero, suc, ◌<◌, ◌≤◌, ◌^◌, lit<, Bool, true, false, cond, eqb, ltb, List, [], ◌∷◌, length, map, get_or, set, All, Option, Some, None, IsSome, refl, sym, subst, ◌∙◌, arith}
use Rattle.std.specs.Prelude.{ℤ, pos, negsuc, unsigned_abs, int_div, int_rem, Result, Ok, Err}
use Rattle.std.proofs.lemmas.Bool.Decides.{nat_tests}
use Rattle.std.proofs.lemmas.List.{length-map}
use Rattle.std.proofs.lemmas.List.Elements.{All-nil, All-cons, All-push, All-set}
use Rattle.c_ast.specs.declared.expr.UnOp.{UnOp}
use Rattle.c_ast.specs.declared.expr.UnOp.TheVariants.{Plus, Minus, Not}
use Rattle.c_ast.specs.declared.expr.BinOp.{BinOp}
use Rattle.c_ast.specs.declared.expr.BinOp.TheVariants.{Mul, Div, Rem, Add, Sub, Less, LessEq, Greater, GreaterEq, Equal, NotEqual, And, Or}
use Rattle.c_ast.specs.declared.place.Place.{Place}
use Rattle.c_ast.specs.declared.place.Place.TheVariants as place
use Rattle.c_ast.specs.Tree.{Expression, Num, Var, Un, Bin, Cond}
use Rattle.lin_terms.specs.declared.form.Form.{Form}
use Rattle.lin_terms.specs.declared.row.Row.{Row}
use Rattle.lin_terms.specs.declared.sign.Sign.{Sign}
use Rattle.lin_terms.specs.Form.{are_zeros, is_constant, sum_of, multiple_of, difference_of, product_of, constant_form}
use Rattle.lin_terms.specs.Makes.{IsFittingForm, fitting}
use Rattle.lin_terms.specs.Row.{EntriesAreBelow}
use Rattle.lin_terms.specs.Sign.{sign_row, tight_fitting}
use Rattle.lin_terms.proofs.Laws.{fitting_fits, variable_fits}
use Rattle.flow_graph.specs.Operation.{Operation, Set, Branch, Mark, Return}
use Rattle.flow_graph.specs.FlowGraph.{FlowGraph, operation_at, node_after, variables_at, width_at, GoesOnAt, HasPlace}
use Rattle.flow_graph.specs.Run.{values_with}
use Rattle.flow_graph.specs.WellFormed.{IsFlowGraph}
use Rattle.sym_paths.specs.declared.case.Case.{Case}
use Rattle.sym_paths.specs.declared.limit.PathLimit.{PathLimit}
use Rattle.sym_paths.specs.Walk.{State, Path, Walk, gives, collect, onward}
use Rattle.sym_paths.specs.Rows.{holds_alone, with_row, decided, joining, joined_tight, joined, all_joined, split, judged, made}
use Rattle.sym_paths.specs.Symbolic.{nonzero_signs, zero_signs, negative_signs, not_positive_signs, positive_signs, not_negative_signs, tested_by, tested, negated_by, negated, Parts, parts, rows_from_zero, rows_below_zero, two_ways, with_column, divisor_of, Part, both, product_made, condition, chosen, test_form, as_value, compared, unknown, divided_by, parted_by, parted, unary_made, binary_made, test_made, binary_walk, symbolic}
use Rattle.sym_paths.specs.Nodes.{End, end_at, operation_walk, walk_from}
use Rattle.sym_paths.specs.Points.{EachArrives, EachOf}
use Rattle.sym_paths.specs.Cases.{room_for, variables_from, start_forms, start_state, segment_walk, fitted_row, fitted_form, completed, all_completed}
use Rattle.sym_paths.specs.Condition.{where_true, condition_walk, completed_rows, rows_of_all}
use Rattle.sym_paths.specs.Fits.{FitVariables, FitsSegment, FitsInputs, CasesFit, ConditionsFit}
use Rattle.sym_paths.proofs.Walks.{each_append, onward_each, each_collected}
use Rattle.sym_paths.proofs.Fitted.{rows_have_length, forms_have_length}
use Rattle.sym_paths.proofs.Cases.{width_is}
use Rattle.sym_paths.proofs.Sizes.{quotient_fits, rest_fits, constant_fits, zero_fits, form_at_fits, listed_fit, variables_fit, spread_fit, tight_small, rows_small, forms_small}

-- The state has the columns of the start and of unknowns within the room, and rows with entries below 2^50 in size.
pub record IsFitState (width room : ℕ) (state : State) : Type 0 where
  pub enough : width ≤ state.columns
  pub few : state.columns ≤ room
  pub small : All (EntriesAreBelow (2 ^ 50)) state.rows

-- Both forms have entries below 2^50 in size.
pub record AreFitParts (both : Parts) : Type 0 where
  pub quotient : IsFittingForm both.quotient
  pub rest : IsFittingForm both.rest

-- The end has a form for each value at its place, which is a mark or the exit, and their entries are below 2^50 in size.
pub record IsFitEnd (graph : FlowGraph) (end : End) : Type 0 where
  pub small : All IsFittingForm end.forms
  pub has : HasPlace graph end.place
  pub elsewhere : end.place ≢ place.Entry
  pub after : length end.forms ≡ width_at graph end.place

-- of answers nothing is asked
abbrev Any : {A : Type 0} → A → Type 0
Any value = Unit {0}

module _ (width room : ℕ) where
  -- the walk arrives in such states alone, with values that have the property
  abbrev Fit : {A : Type 0} → (A → Type 0) → Walk A → Type 0
  Fit V walk = EachArrives (λ path. IsFitState width room path.state × V path.value) walk

  onward_fits : {A B : Type 0} (V : A → Type 0) (W : B → Type 0) (next : A → State → Walk B) (walk : Walk A)
      → ((value : A) (after : State) → IsFitState width room after → V value → Fit W (next value after)) → Fit V walk → Fit W (onward walk next)
  onward_fits V W next walk go fit =
      onward_each next (λ path. IsFitState width room path.state × V path.value) (λ path. IsFitState width room path.state × W path.value) walk
      (λ path here. go path.value path.state here.0 here.1) fit

  -- ---- rows that join

  with_row_fits : (row : Row) → EntriesAreBelow (2 ^ 50) row → (state : State) → IsFitState width room state → IsFitState width room (with_row state row)
  with_row_fits row small state fit =
      record { enough = fit.enough; few = fit.few; small = All-push (EntriesAreBelow (2 ^ 50)) state.rows row fit.small small }

  module _ {A : Type 0} (V : A → Type 0) (value : A) (has : V value) where
    decided_fits : (answer : Bool) (state : State) → IsFitState width room state → Fit V (decided answer value state)
    decided_fits true state fit = ((fit, has), tt)
    decided_fits false state fit = tt

    joining_fits : (alone : Bool) (row : Row) → EntriesAreBelow (2 ^ 50) row → (state : State) → IsFitState width room state
        → Fit V (joining alone row value state)
    joining_fits true row small state fit = decided_fits (holds_alone row) state fit
    joining_fits false row small state fit = ((with_row_fits row small state fit, has), tt)

    tight_fits : (row : Row) (found : Option Row) → found ≡ tight_fitting row → (state : State) → IsFitState width room state
        → Fit V (joined_tight found value state)
    tight_fits row None is state fit = tt
    tight_fits row (Some tight) is state fit = joining_fits (are_zeros tight.coefs) tight (tight_small row tight is) state fit

    joined_fits : (row : Row) (state : State) → IsFitState width room state → Fit V (joined row value state)
    joined_fits row state fit = tight_fits row (tight_fitting row) refl state fit

  all_joined_fits : {A : Type 0} (V : A → Type 0) (value : A) → V value → (rows : List Row) (state : State) → IsFitState width room state
      → Fit V (all_joined rows value state)
  all_joined_fits V value has [] state fit = ((fit, has), tt)
  all_joined_fits V value has (row ∷ rows) state fit =
      onward_fits Any V (λ _ next. all_joined rows value next) (joined row (tt {0}) state) (λ _ after here _. all_joined_fits V value has rows after here)
      (joined_fits Any (tt {0}) tt row state fit)

  split_fits : {A : Type 0} (options : List (Sign × A)) (form : Form) (state : State) → IsFitState width room state → Fit Any (split options form state)
  split_fits [] form state fit = tt
  split_fits (option ∷ options) form state fit =
      each_append _ (joined (sign_row option.0 form) option.1 state) (split options form state)
      (joined_fits Any option.1 tt (sign_row option.0 form) state fit) (split_fits options form state fit)

  -- ---- forms that are made, and tests of forms

  judged_fits : (wanted : Form) (found : Option Form) → fitting wanted ≡ found → (state : State) → IsFitState width room state
      → Fit IsFittingForm (judged found state)
  judged_fits wanted None is state fit = tt
  judged_fits wanted (Some form) is state fit = ((fit, fitting_fits wanted form is), tt)

  made_fits : (wanted : Form) (state : State) → IsFitState width room state → Fit IsFittingForm (made wanted state)
  made_fits wanted state fit = judged_fits wanted (fitting wanted) refl state fit

  tested_fits : (constant : Bool) (form : Form) (state : State) → IsFitState width room state → Fit Any (tested_by constant form state)
  tested_fits true form state fit = ((fit, tt), tt)
  tested_fits false form state fit = split_fits nonzero_signs form state fit

  negated_fits : (constant : Bool) (form : Form) (state : State) → IsFitState width room state → Fit Any (negated_by constant form state)
  negated_fits true form state fit = ((fit, tt), tt)
  negated_fits false form state fit = split_fits zero_signs form state fit

  test_fits : (test : Bool) → IsFittingForm (test_form room test)
  test_fits true = constant_fits room (pos 1) (lit< tt)
  test_fits false = zero_fits room

  as_value_fits : (walk : Walk Bool) → Fit Any walk → Fit IsFittingForm (as_value room walk)
  as_value_fits walk fit =
      onward_fits Any IsFittingForm (λ test state. gives (test_form room test) state) walk (λ test after here _. ((here, test_fits test), tt)) fit

  compared_fits : (options : List (Sign × Bool)) (left right : Form) (state : State) → IsFitState width room state
      → Fit IsFittingForm (compared room options left right state)
  compared_fits options left right state fit =
      onward_fits IsFittingForm IsFittingForm (λ difference next. as_value room (split options difference next)) (made (difference_of left right) state)
      (λ difference after here small. as_value_fits (split options difference after) (split_fits options difference after here))
      (made_fits (difference_of left right) state fit)

  product_fits : (product : Option Form) (state : State) → IsFitState width room state → Fit IsFittingForm (product_made product state)
  product_fits None state fit = tt
  product_fits (Some form) state fit = made_fits form state fit

  -- ---- divisions

  two_ways_fit : (divisor : ℤ) (dividend quotient rest : Form) → AreFitParts (parts quotient rest) → (state : State) → IsFitState width room state
      → Fit AreFitParts (two_ways divisor dividend quotient rest state)
  two_ways_fit divisor dividend quotient rest small state fit =
      each_append _ (all_joined (rows_from_zero divisor dividend rest) (parts quotient rest) state)
      (all_joined (rows_below_zero divisor dividend rest) (parts quotient rest) state)
      (all_joined_fits AreFitParts (parts quotient rest) small (rows_from_zero divisor dividend rest) state fit)
      (all_joined_fits AreFitParts (parts quotient rest) small (rows_below_zero divisor dividend rest) state fit)

  with_column_fits : (state : State) → state.columns < room → IsFitState width room state → IsFitState width room (with_column state)
  with_column_fits state below fit =
      let many = fit.enough in record { enough = omega (arith, many); few = omega (arith, below); small = fit.small }

  divided_fits : (test : Bool) (divisor : ℤ) (dividend : Form) (state : State) → ltb state.columns room ≡ test → IsFitState width room state
      → Fit AreFitParts (divided_by room test divisor dividend state)
  divided_fits false divisor dividend state is fit = tt
  divided_fits true divisor dividend state is fit =
      let below : state.columns < room = grind (arith, nat_tests) in
      onward_fits IsFittingForm AreFitParts _ (made (multiple_of divisor (unknown room state)) (with_column state)) (λ whole next here small.
      onward_fits IsFittingForm AreFitParts _ (made (difference_of dividend whole) next)
      (λ rest last there rest_small. two_ways_fit divisor dividend (unknown room state) rest
      (record { quotient = variable_fits room state.columns below; rest = rest_small }) last there)
      (made_fits (difference_of dividend whole) next here))
      (made_fits (multiple_of divisor (unknown room state)) (with_column state) (with_column_fits state below fit))

  -- a quotient of constants, and what it leaves, is no wider than the dividend
  decided_parts_fit : (divisor : ℤ) (form : Form) → IsFittingForm form
      → AreFitParts (parts (constant_form room (int_div form.constant divisor)) (constant_form room (int_rem form.constant divisor)))
  decided_parts_fit divisor form small = record {
    quotient = constant_fits room (int_div form.constant divisor) (quotient_fits form.constant divisor small.constant);
    rest = constant_fits room (int_rem form.constant divisor) (rest_fits form.constant divisor small.constant);
  }

  parted_fits : (constant one : Bool) (divisor : ℤ) (form : Form) → IsFittingForm form → (state : State) → IsFitState width room state
      → Fit AreFitParts (parted_by room constant one divisor form state)
  parted_fits true one divisor form small state fit = ((fit, decided_parts_fit divisor form small), tt)
  parted_fits false true divisor form small state fit = ((fit, record { quotient = small; rest = zero_fits room }), tt)
  parted_fits false false divisor form small state fit = divided_fits (ltb state.columns room) divisor form state refl fit

  -- ---- walks of expressions

  -- what the walk of a part of an expression owes
  abbrev PartFits : Part → Type 0
  PartFits part = (state : State) → IsFitState width room state → Fit IsFittingForm (part state)

  condition_fits : (part : Part) → PartFits part → (state : State) → IsFitState width room state → Fit Any (condition part state)
  condition_fits part fits state fit =
      onward_fits IsFittingForm Any tested (part state) (λ form after here small. tested_fits (is_constant form) form after here) (fits state fit)

  chosen_fits : (first second : Part) → PartFits first → PartFits second → (answer : Bool) (state : State) → IsFitState width room state
      → Fit IsFittingForm (chosen first second answer state)
  chosen_fits first second first_fits second_fits true state fit = first_fits state fit
  chosen_fits first second first_fits second_fits false state fit = second_fits state fit

  choice_fits : (test first second : Part) → PartFits test → PartFits first → PartFits second
      → PartFits (λ state. onward (condition test state) (chosen first second))
  choice_fits test first second test_fits first_fits second_fits state fit =
      onward_fits Any IsFittingForm (chosen first second) (condition test state)
      (λ answer after here _. chosen_fits first second first_fits second_fits answer after here) (condition_fits test test_fits state fit)

  both_fit : (first second : Part) (make : Form → Form → State → Walk Form) → PartFits first → PartFits second
      → ((left right : Form) (state : State) → IsFitState width room state → Fit IsFittingForm (make left right state)) → PartFits (both first second make)
  both_fit first second make first_fits second_fits makes state fit =
      onward_fits IsFittingForm IsFittingForm (λ left next. onward (second next) (λ right last. make left right last)) (first state)
      (λ left next here _. onward_fits IsFittingForm IsFittingForm (λ right last. make left right last) (second next)
      (λ right last there _. makes left right last there) (second_fits next here)) (first_fits state fit)

  comparison_fits : (options : List (Sign × Bool)) (first second : Part) → PartFits first → PartFits second
      → PartFits (both first second (compared room options))
  comparison_fits options first second first_fits second_fits =
      both_fit first second (compared room options) first_fits second_fits (compared_fits options)

  test_made_fits : (part : Part) → PartFits part → PartFits (test_made room part)
  test_made_fits part fits state fit = as_value_fits (condition part state) (condition_fits part fits state fit)

  constant_part_fits : (test : Bool) → PartFits (gives (test_form room test))
  constant_part_fits test state fit = ((fit, test_fits test), tt)

  -- a division, of which one part is taken
  taken_fits : (part : Part) (divisor : ℤ) (take : Parts → Form) → ((both : Parts) → AreFitParts both → IsFittingForm (take both)) → PartFits part
      → PartFits (λ state. onward (part state) (λ form next. onward (parted room divisor form next) (λ both last. gives (take both) last)))
  taken_fits part divisor take takes fits state fit =
      onward_fits IsFittingForm IsFittingForm (λ form next. onward (parted room divisor form next) (λ both last. gives (take both) last)) (part state)
      (λ form next here small. onward_fits AreFitParts IsFittingForm (λ both last. gives (take both) last) (parted room divisor form next)
      (λ both last there both_small. ((there, takes both both_small), tt))
      (parted_fits (is_constant form) (eqb (unsigned_abs divisor) 1) divisor form small next here)) (fits state fit)

  unary_fits : (op : UnOp) (form : Form) → IsFittingForm form → (state : State) → IsFitState width room state
      → Fit IsFittingForm (unary_made room op form state)
  unary_fits Plus form small state fit = ((fit, small), tt)
  unary_fits Minus form small state fit = made_fits (multiple_of (negsuc 0) form) state fit
  unary_fits Not form small state fit = as_value_fits (negated form state) (negated_fits (is_constant form) form state fit)

  binary_fits : (op : BinOp) (first second : Part) (divisor : ℤ) → PartFits first → PartFits second → PartFits (binary_walk room op first second divisor)
  binary_fits Mul first second divisor first_fits second_fits =
      both_fit first second (binary_made room Mul) first_fits second_fits (λ left right state fit. product_fits (product_of left right) state fit)
  binary_fits Div first second divisor first_fits second_fits = taken_fits first divisor (λ both. both.quotient) (λ both small. small.quotient) first_fits
  binary_fits Rem first second divisor first_fits second_fits = taken_fits first divisor (λ both. both.rest) (λ both small. small.rest) first_fits
  binary_fits Add first second divisor first_fits second_fits =
      both_fit first second (binary_made room Add) first_fits second_fits (λ left right state fit. made_fits (sum_of left right) state fit)
  binary_fits Sub first second divisor first_fits second_fits =
      both_fit first second (binary_made room Sub) first_fits second_fits (λ left right state fit. made_fits (difference_of left right) state fit)
  binary_fits Less first second divisor first_fits second_fits = comparison_fits negative_signs first second first_fits second_fits
  binary_fits LessEq first second divisor first_fits second_fits = comparison_fits not_positive_signs first second first_fits second_fits
  binary_fits Greater first second divisor first_fits second_fits = comparison_fits positive_signs first second first_fits second_fits
  binary_fits GreaterEq first second divisor first_fits second_fits = comparison_fits not_negative_signs first second first_fits second_fits
  binary_fits Equal first second divisor first_fits second_fits = comparison_fits zero_signs first second first_fits second_fits
  binary_fits NotEqual first second divisor first_fits second_fits = comparison_fits nonzero_signs first second first_fits second_fits
  binary_fits And first second divisor first_fits second_fits =
      choice_fits first (test_made room second) (gives (test_form room false)) first_fits (test_made_fits second second_fits) (constant_part_fits false)
  binary_fits Or first second divisor first_fits second_fits =
      choice_fits first (gives (test_form room true)) (test_made room second) first_fits (constant_part_fits true) (test_made_fits second second_fits)

  symbolic_fits : (forms : List Form) → All IsFittingForm forms → (e : Expression) → PartFits (symbolic room forms e)
  symbolic_fits forms small (Num z) state fit = made_fits (constant_form room z) state fit
  symbolic_fits forms small (Var x) state fit = ((fit, form_at_fits room forms x small), tt)
  symbolic_fits forms small (Un op e) state fit =
      onward_fits IsFittingForm IsFittingForm (unary_made room op) (symbolic room forms e state) (λ form after here fits. unary_fits op form fits after here)
      (symbolic_fits forms small e state fit)
  symbolic_fits forms small (Bin op e f) state fit =
      binary_fits op (symbolic room forms e) (symbolic room forms f) (divisor_of f) (symbolic_fits forms small e) (symbolic_fits forms small f) state fit
  symbolic_fits forms small (Cond c e f) state fit =
      choice_fits (symbolic room forms c) (symbolic room forms e) (symbolic room forms f)
      (symbolic_fits forms small c) (symbolic_fits forms small e) (symbolic_fits forms small f) state fit

  -- ---- walks over a graph

  module _ (graph : FlowGraph) (is : IsFlowGraph graph) where
    mark_fits : (node mark next : ℕ) → operation_at graph node ≡ Some (Mark mark next) → (forms : List Form) → All IsFittingForm forms
        → IsFitEnd graph (end_at (place.Mark mark) (values_with (constant_form room (pos 0)) (variables_at graph (place.Mark mark)) forms))
    mark_fits node mark next op_is forms small = record {
      small = listed_fit room (variables_at graph (place.Mark mark)) forms small;
      has = let stop = is.marks node mark next op_is in subst IsSome (sym stop.found) refl;
      elsewhere = λ same. cc;
      after = length-map (variables_at graph (place.Mark mark)) (λ x. get_or forms x (constant_form room (pos 0)));
    }

    exit_fits : (form : Form) → IsFittingForm form → IsFitEnd graph (end_at place.Exit (form ∷ []))
    exit_fits form small = record {
      small = All-cons IsFittingForm form [] small (All-nil IsFittingForm);
      has = tt;
      elsewhere = λ same. cc;
      after = refl;
    }

    -- what the walks from nodes owe
    abbrev NodesFit : (ℕ → List Form → State → Walk End) → Type 0
    NodesFit walk = (node : ℕ) (forms : List Form) → All IsFittingForm forms → (state : State) → IsFitState width room state
        → Fit (IsFitEnd graph) (walk node forms state)

    operation_fits : (others : ℕ → List Form → State → Walk End) → NodesFit others → (node : ℕ) (o : Option Operation) → operation_at graph node ≡ o
        → (forms : List Form) → All IsFittingForm forms → (state : State) → IsFitState width room state
        → Fit (IsFitEnd graph) (operation_walk room graph others o forms state)
    operation_fits others go node None o_is forms small state fit = tt
    operation_fits others go node (Some (Set x e next)) o_is forms small state fit =
        onward_fits IsFittingForm (IsFitEnd graph) (λ value. others next (set forms x value)) (symbolic room forms e state)
        (λ value after here fits. go next (set forms x value) (All-set IsFittingForm forms x value fits small) after here)
        (symbolic_fits forms small e state fit)
    operation_fits others go node (Some (Branch e first second)) o_is forms small state fit =
        onward_fits Any (IsFitEnd graph) (λ test. others (cond test first second) forms) (condition (symbolic room forms e) state)
        (λ test after here _. go (cond test first second) forms small after here)
        (condition_fits (symbolic room forms e) (symbolic_fits forms small e) state fit)
    operation_fits others go node (Some (Mark mark next)) o_is forms small state fit = ((fit, mark_fits node mark next o_is forms small), tt)
    operation_fits others go node (Some (Return e)) o_is forms small state fit =
        onward_fits IsFittingForm (IsFitEnd graph) (λ value. gives (end_at place.Exit (value ∷ []))) (symbolic room forms e state)
        (λ value after here fits. ((here, exit_fits value fits), tt)) (symbolic_fits forms small e state fit)

    walk_fits : (n : ℕ) → NodesFit (walk_from room graph n)
    walk_fits zero node forms small state fit = tt
    walk_fits (suc n) node forms small state fit =
        operation_fits (walk_from room graph n) (walk_fits n) node (operation_at graph node) refl forms small state fit

-- ---- the columns in use

-- each of the things that are made of others
all_of_map : {A B : Type 0} (P : A → Type 0) (Q : B → Type 0) (f : A → B) → ((x : A) → P x → Q (f x)) → (xs : List A) → EachOf P xs → All Q (map f xs)
all_of_map P Q f go [] each = All-nil Q
all_of_map P Q f go (x ∷ xs) each = All-cons Q (f x) (map f xs) (go x each.0) (all_of_map P Q f go xs each.1)

start_fits : (width : ℕ) → IsFitState width (room_for width) (start_state width)
start_fits width = record { enough = omega arith; few = omega arith; small = All-nil (EntriesAreBelow (2 ^ 50)) }

rows_fit : (width : ℕ) (state : State) → IsFitState width (room_for width) state
    → FitVariables width state.columns (map (fitted_row state.columns) state.rows)
rows_fit width state fit = record {
  enough = fit.enough;
  few = fit.few;
  lengths = rows_have_length state.columns state.rows;
  small = rows_small state.columns state.rows fit.small;
}

-- ---- the cases of a segment

module _ (graph : FlowGraph) (is : IsFlowGraph graph) (l : Place) (goes : GoesOnAt graph l) where
  abbrev begun : ℕ
  begun = length (variables_at graph l)

  completed_fits : (path : Path End) → IsFitState begun (room_for begun) path.state × IsFitEnd graph path.value → FitsSegment graph l (completed path)
  completed_fits path (state, end) = record {
    columns = path.state.columns;
    rows = subst (λ (width : ℕ). FitVariables width path.state.columns (map (fitted_row path.state.columns) path.state.rows)) (sym (width_is graph l goes))
        (rows_fit begun path.state state);
    lengths = forms_have_length path.state.columns path.value.forms;
    small = forms_small path.state.columns path.value.forms end.small;
    has = end.has;
    elsewhere = end.elsewhere;
    after = length-map path.value.forms (fitted_form path.state.columns) ∙ end.after;
  }

  segment_fits : (paths : List (Path End)) → collect 1024 (segment_walk graph l) ≡ Ok paths → All (FitsSegment graph l) (map completed paths)
  segment_fits paths collected =
      all_of_map _ (FitsSegment graph l) completed completed_fits paths
      (each_collected _ 1024 (segment_walk graph l) paths collected
      (walk_fits begun (room_for begun) graph is (suc (length graph.ops)) (node_after graph l) (start_forms (room_for begun) (variables_at graph l) graph.vars)
      (spread_fit (room_for begun) (variables_at graph l) 0 graph.vars (variables_from (room_for begun) 0 begun)
      (variables_fit (room_for begun) 0 begun (omega arith))) (start_state begun) (start_fits begun)))

pub cases_fit : CasesFit
cases_fit graph is l goes cases made = on (collect 1024 (segment_walk graph l)) refl made
  where
    on : (r : Result (List (Path End)) PathLimit) → collect 1024 (segment_walk graph l) ≡ r → all_completed r ≡ Ok cases → All (FitsSegment graph l) cases
    on (Ok paths) collected made =
        let same : map completed paths ≡ cases = cc in
        subst (λ (cs : List Case). All (FitsSegment graph l) cs) same (segment_fits graph is l goes paths collected)
    on (Err limit) collected made = cc

-- ---- the cases of a condition

where_true_fits : (width room : ℕ) (test : Bool) (state : State) → IsFitState width room state → Fit width room Any (where_true test state)
where_true_fits width room true state fit = ((fit, tt), tt)
where_true_fits width room false state fit = tt

condition_walk_fits : (arity : ℕ) (e : Expression) → Fit arity (room_for arity) Any (condition_walk arity e)
condition_walk_fits arity e =
    onward_fits arity (room_for arity) Any Any where_true
    (condition (symbolic (room_for arity) (variables_from (room_for arity) 0 arity) e) (start_state arity))
    (λ test after fit _. where_true_fits arity (room_for arity) test after fit)
    (condition_fits arity (room_for arity) (symbolic (room_for arity) (variables_from (room_for arity) 0 arity) e)
    (symbolic_fits arity (room_for arity) (variables_from (room_for arity) 0 arity) (variables_fit (room_for arity) 0 arity (omega arith)) e)
    (start_state arity) (start_fits arity))

inputs_fit : (arity : ℕ) (path : Path (Unit {0})) → IsFitState arity (room_for arity) path.state × Any path.value → FitsInputs arity (completed_rows path)
inputs_fit arity path (state, _) = record { columns = path.state.columns; over = rows_fit arity path.state state }

pub conditions_fit : ConditionsFit
conditions_fit arity e can cases made = on (collect 1024 (condition_walk arity e)) refl made
  where
    on : (r : Result (List (Path (Unit {0}))) PathLimit) → collect 1024 (condition_walk arity e) ≡ r → rows_of_all r ≡ Ok cases → All (FitsInputs arity) cases
    on (Ok paths) collected made =
        let same : map completed_rows paths ≡ cases = cc in
        subst (λ (cs : List (List Row)). All (FitsInputs arity) cs) same
        (all_of_map _ (FitsInputs arity) completed_rows (inputs_fit arity) paths
        (each_collected _ 1024 (condition_walk arity e) paths collected (condition_walk_fits arity e)))
    on (Err limit) collected made = cc
