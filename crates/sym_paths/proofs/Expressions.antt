-- The forms that the walk of an expression arrives at have its value.
use Rattle.std.proofs.Common.{◌≡◌, ℕ, ◌≤◌, Bool, true, false, cond, not, ◌&&◌, ◌||◌, List, ◌++◌, get_or, Some, None, refl, sym, ap, subst, ◌∙◌, arith}
use Rattle.std.specs.Prelude.{ℤ, pos, negsuc, neg_ℤ, ◌+ℤ◌, ◌-ℤ◌, ◌*ℤ◌, int_lt, int_le, int_div, int_rem}
use Rattle.std.proofs.lemmas.Int.{ints}
use lib.IntN.{*ℤ_comm}
use Rattle.c_ast.specs.declared.expr.UnOp.{UnOp}
use Rattle.c_ast.specs.declared.expr.UnOp.TheVariants.{Plus, Minus, Not}
use Rattle.c_ast.specs.declared.expr.BinOp.{BinOp}
use Rattle.c_ast.specs.declared.expr.BinOp.TheVariants.{Mul, Div, Rem, Add, Sub, Less, LessEq, Greater, GreaterEq, Equal, NotEqual, And, Or}
use Rattle.c_ast.specs.Tree.{Expression, Num, Var, Un, Bin, Cond}
use Rattle.c_ast.specs.Value.{is_nonzero, test_value, are_equal, unary_value, binary_value, eval, IsDivisor, HasDivisor, CanEvaluate}
use Rattle.lin_terms.specs.declared.form.Form.{Form}
use Rattle.lin_terms.specs.declared.sign.Sign.{Sign}
use Rattle.lin_terms.specs.Form.{value_at, sum_of, multiple_of, difference_of, product_of, constant_form, is_constant}
use Rattle.lin_terms.proofs.Laws.{value_at-sum_of, value_at-multiple_of, value_at-constant}
use Rattle.sym_paths.specs.Walk.{State, Walk, gives, onward}
use Rattle.sym_paths.specs.Rows.{split, made}
use Rattle.sym_paths.specs.Symbolic.{nonzero_signs, zero_signs, negative_signs, not_positive_signs, positive_signs, not_negative_signs, tested_by, tested, negated_by, negated, Parts, divisor_of, Part, both, product_made, condition, chosen, test_form, as_value, compared, parted, unary_made, test_made, binary_walk, symbolic}
use Rattle.sym_paths.specs.Points.{HasValue, HaveValues, Extends, Splits}
use Rattle.sym_paths.specs.Laws.{LawOfExpressions}
use Rattle.sym_paths.proofs.Walks.{changed, gives_splits, stops_splits, onward_splits}
use Rattle.sym_paths.proofs.Points.{has_longer, have_longer, has_here, constant_has, variable_has}
use Rattle.sym_paths.proofs.Rows.{split_splits, made_splits}
use Rattle.sym_paths.proofs.Divisions.{HaveParts, parted_splits}
use Rattle.sym_paths.proofs.Tests.{Covers, nonzero_covers, zero_covers, is_negative, is_positive, negative_covers, not_negative_covers, positive_covers, not_positive_covers, less_is, greater_is, less_equal_is, greater_equal_is, equal_is, not_equal_is, and_is, or_is}

-- ---- forms have values

has_same : (point : List ℤ) (f : Form) (u v : ℤ) → u ≡ v → HasValue point f u → HasValue point f v
has_same point f u v is has behind = has behind ∙ is

has_sum : (point : List ℤ) (f g : Form) (u v : ℤ) → HasValue point f u → HasValue point g v → HasValue point (sum_of f g) (u +ℤ v)
has_sum point f g u v first second behind =
    value_at-sum_of f g (point ++ behind) ∙ ap (λ (z : ℤ). z +ℤ value_at g (point ++ behind)) (first behind) ∙ ap (λ (z : ℤ). u +ℤ z) (second behind)

has_multiple : (point : List ℤ) (k : ℤ) (f : Form) (v : ℤ) → HasValue point f v → HasValue point (multiple_of k f) (k *ℤ v)
has_multiple point k f v has behind = value_at-multiple_of k f (point ++ behind) ∙ ap (λ (z : ℤ). k *ℤ z) (has behind)

less_once : (u v : ℤ) → u +ℤ (negsuc 0 *ℤ v) ≡ u -ℤ v
less_once u v = omega (arith, ints)

opposite : (v : ℤ) → negsuc 0 *ℤ v ≡ neg_ℤ v
opposite v = omega (arith, ints)

has_difference : (point : List ℤ) (f g : Form) (u v : ℤ) → HasValue point f u → HasValue point g v → HasValue point (difference_of f g) (u -ℤ v)
has_difference point f g u v first second =
    has_same point (difference_of f g) _ _ (less_once u v)
    (has_sum point f (multiple_of (negsuc 0) g) u (negsuc 0 *ℤ v) first (has_multiple point (negsuc 0) g v second))

-- ---- tests of forms

has_test : (point : List ℤ) (room : ℕ) (answer given : Bool) → given ≡ answer → HasValue point (test_form room given) (test_value answer)
has_test point room answer given is = constant_has point room (test_value given) (test_value answer) (ap test_value is)

as_value_splits : (room : ℕ) (state : State) (Q : List ℤ → Type 0) (answer : Bool) (walk : Walk Bool) → Splits state Q (λ point given. given ≡ answer) walk
    → Splits state Q (λ point f. HasValue point f (test_value answer)) (as_value room walk)
as_value_splits room state Q answer walk splits =
    onward_splits (λ point f. HasValue point f (test_value answer)) (λ given next. gives (test_form room given) next)
    state Q (λ point given. given ≡ answer) walk splits
    (λ given next. gives_splits next (λ point. given ≡ answer) (λ point f. HasValue point f (test_value answer)) (test_form room given)
    (λ point is. has_test point room answer given is))

split_tests : (test : ℤ → Bool) (options : List (Sign × Bool)) → Covers options test → (state : State) (Q : List ℤ → Type 0) (f : Form) (v : ℤ)
    → ((point : List ℤ) → Q point → HasValue point f v) → Splits state Q (λ point answer. answer ≡ test v) (split options f state)
split_tests test options covers state Q f v has =
    split_splits state Q (λ point answer. answer ≡ test v) f v has options (λ point q. (covers v).0) (covers v).1

module _ (Q : List ℤ → Type 0) (f : Form) (v : ℤ) (has : (point : List ℤ) → Q point → HasValue point f v) (state : State) where
  constant_is : is_constant f ≡ true → (point : List ℤ) → Q point → f.constant ≡ v
  constant_is none point q = sym (value_at-constant f point none) ∙ has_here point f v (has point q)

  tested_tests : (constant : Bool) → is_constant f ≡ constant → Splits state Q (λ point answer. answer ≡ is_nonzero v) (tested_by constant f state)
  tested_tests true none =
      gives_splits state Q (λ point answer. answer ≡ is_nonzero v) (is_nonzero f.constant) (λ point q. ap is_nonzero (constant_is none point q))
  tested_tests false some = split_tests is_nonzero nonzero_signs nonzero_covers state Q f v has

  negated_tests : (constant : Bool) → is_constant f ≡ constant → Splits state Q (λ point answer. answer ≡ not (is_nonzero v)) (negated_by constant f state)
  negated_tests true none =
      gives_splits state Q (λ point answer. answer ≡ not (is_nonzero v)) (not (is_nonzero f.constant))
      (λ point q. ap (λ (z : ℤ). not (is_nonzero z)) (constant_is none point q))
  negated_tests false some = split_tests (λ z. not (is_nonzero z)) zero_signs zero_covers state Q f v has

-- ---- what is made of two forms

abbrev Values : Form → Form → ℤ → ℤ → List ℤ → Type 0
Values f g u v point = HasValue point f u × HasValue point g v

compared_splits : (room : ℕ) (options : List (Sign × Bool)) (test : ℤ → Bool) → Covers options test → (f g : Form) (u v : ℤ) (answer : Bool)
    → test (u -ℤ v) ≡ answer → (state : State)
    → Splits state (Values f g u v) (λ point d. HasValue point d (test_value answer)) (compared room options f g state)
compared_splits room options test covers f g u v answer is state =
    onward_splits (λ point d. HasValue point d (test_value answer)) (λ d next. as_value room (split options d next))
    state (Values f g u v) (λ point d. HasValue point d (u -ℤ v)) (made (difference_of f g) state)
    (made_splits state (Values f g u v) (λ point d. HasValue point d (u -ℤ v)) (difference_of f g) (λ point have. has_difference point f g u v have.0 have.1))
    (λ d next. as_value_splits room next (λ point. HasValue point d (u -ℤ v)) answer (split options d next)
    (changed next (λ point. HasValue point d (u -ℤ v)) (λ point. HasValue point d (u -ℤ v)) (λ point given. given ≡ test (u -ℤ v))
    (λ point given. given ≡ answer) (split options d next) (λ point p. p) (λ given point longer x p equal. equal ∙ is)
    (split_tests test options covers next (λ point. HasValue point d (u -ℤ v)) d (u -ℤ v) (λ point p. p))))

product_splits : (f g : Form) (u v : ℤ) (state : State) (first second : Bool) → is_constant f ≡ first → is_constant g ≡ second
    → Splits state (Values f g u v) (λ point d. HasValue point d (u *ℤ v))
    (product_made (cond first (Some (multiple_of f.constant g)) (cond second (Some (multiple_of g.constant f)) None)) state)
product_splits f g u v state true second none is =
    made_splits state (Values f g u v) (λ point d. HasValue point d (u *ℤ v)) (multiple_of f.constant g) (λ point have.
    let constant : f.constant ≡ u = sym (value_at-constant f point none) ∙ has_here point f u have.0 in
    has_same point (multiple_of f.constant g) _ _ (ap (λ (z : ℤ). z *ℤ v) constant) (has_multiple point f.constant g v have.1))
product_splits f g u v state false true is none =
    made_splits state (Values f g u v) (λ point d. HasValue point d (u *ℤ v)) (multiple_of g.constant f) (λ point have.
    let constant : g.constant ≡ v = sym (value_at-constant g point none) ∙ has_here point g v have.1 in
    has_same point (multiple_of g.constant f) _ _ (ap (λ (z : ℤ). z *ℤ u) constant ∙ *ℤ_comm v u) (has_multiple point g.constant f u have.0))
product_splits f g u v state false false is is' = stops_splits state (Values f g u v) (λ point d. HasValue point d (u *ℤ v)) _

-- ---- walks, where something holds of the points that stays at longer ones

abbrev pub IsStable : (List ℤ → Type 0) → Type 0
IsStable P = (point longer : List ℤ) → Extends point longer → P point → P longer

pub carried : {A : Type 0} (state : State) (P : List ℤ → Type 0) (G : List ℤ → A → Type 0) (walk : Walk A) → IsStable P → Splits state P G walk
    → Splits state P (λ point a. P point × G point a) walk
carried state P G walk stable splits =
    changed state P P G (λ point a. P point × G point a) walk (λ point p. p) (λ a point longer x p g. (stable point longer x p, g)) splits

module _ (room : ℕ) (P : List ℤ → Type 0) (stable : IsStable P) where
  -- what the walk of an expression with this value owes
  abbrev pub Means : Part → ℤ → Type 0
  Means part v = (state : State) → Splits state P (λ point f. HasValue point f v) (part state)

  pub condition_splits : (part : Part) (v : ℤ) → Means part v → (state : State)
      → Splits state P (λ point answer. P point × (answer ≡ is_nonzero v)) (condition part state)
  condition_splits part v means state =
      carried state P (λ point answer. answer ≡ is_nonzero v) (condition part state) stable
      (onward_splits (λ point answer. answer ≡ is_nonzero v) tested state P (λ point f. HasValue point f v) (part state) (means state)
      (λ f next. tested_tests (λ point. HasValue point f v) f v (λ point has. has) next (is_constant f) refl))

  both_means : (first second : Part) (u v t : ℤ) (make : Form → Form → State → Walk Form) → Means first u → Means second v
      → ((f g : Form) (state : State) → Splits state (Values f g u v) (λ point d. HasValue point d t) (make f g state))
      → Means (both first second make) t
  both_means first second u v t make means means' makes state =
      onward_splits (λ point d. HasValue point d t) (λ f next. onward (second next) (λ g last. make f g last))
      state P (λ point f. P point × HasValue point f u) (first state) (carried state P (λ point f. HasValue point f u) (first state) stable (means state))
      (λ f next. onward_splits (λ point d. HasValue point d t) (λ g last. make f g last)
      next (λ point. P point × HasValue point f u) (λ point g. HasValue point f u × HasValue point g v) (second next)
      (changed next P (λ point. P point × HasValue point f u) (λ point g. HasValue point g v) (λ point g. HasValue point f u × HasValue point g v)
      (second next) (λ point p. p.0) (λ g point longer x p has. (has_longer point longer f u x p.1, has)) (means' next))
      (λ g last. makes f g last))

  unary_splits : (op : UnOp) (f : Form) (v : ℤ) (state : State)
      → Splits state (λ point. HasValue point f v) (λ point d. HasValue point d (unary_value op v)) (unary_made room op f state)
  unary_splits Plus f v state = gives_splits state (λ point. HasValue point f v) (λ point d. HasValue point d v) f (λ point has. has)
  unary_splits Minus f v state =
      made_splits state (λ point. HasValue point f v) (λ point d. HasValue point d (neg_ℤ v)) (multiple_of (negsuc 0) f)
      (λ point has. has_same point (multiple_of (negsuc 0) f) _ _ (opposite v) (has_multiple point (negsuc 0) f v has))
  unary_splits Not f v state =
      as_value_splits room state (λ point. HasValue point f v) (not (is_nonzero v)) (negated f state)
      (negated_tests (λ point. HasValue point f v) f v (λ point has. has) state (is_constant f) refl)

  unary_means : (op : UnOp) (part : Part) (v : ℤ) → Means part v → Means (λ state. onward (part state) (unary_made room op)) (unary_value op v)
  unary_means op part v means state =
      onward_splits (λ point d. HasValue point d (unary_value op v)) (unary_made room op) state P (λ point f. HasValue point f v) (part state) (means state)
      (λ f next. unary_splits op f v next)

  comparison_means : (options : List (Sign × Bool)) (test : ℤ → Bool) → Covers options test → (first second : Part) (u v : ℤ) (answer : Bool)
      → test (u -ℤ v) ≡ answer → Means first u → Means second v → Means (both first second (compared room options)) (test_value answer)
  comparison_means options test covers first second u v answer is means means' =
      both_means first second u v (test_value answer) (compared room options) means means'
      (λ f g state. compared_splits room options test covers f g u v answer is state)

  -- after a test, one of two walks
  pub chosen_splits : (first second : Part) (test : Bool) (u v : ℤ) → Means first u → Means second v → (answer : Bool) (state : State)
      → Splits state (λ point. P point × (answer ≡ test)) (λ point f. HasValue point f (cond test u v)) (chosen first second answer state)
  chosen_splits first second test u v means means' true state =
      changed state P (λ point. P point × (true ≡ test)) (λ point f. HasValue point f u) (λ point f. HasValue point f (cond test u v)) (first state)
      (λ point p. p.0) (λ f point longer x p has. has_same longer f u (cond test u v) (ap (λ (t : Bool). cond t u v) p.1) has) (means state)
  chosen_splits first second test u v means means' false state =
      changed state P (λ point. P point × (false ≡ test)) (λ point f. HasValue point f v) (λ point f. HasValue point f (cond test u v)) (second state)
      (λ point p. p.0) (λ f point longer x p has. has_same longer f v (cond test u v) (ap (λ (t : Bool). cond t u v) p.1) has) (means' state)

  choice_means : (test first second : Part) (t u v : ℤ) → Means test t → Means first u → Means second v
      → Means (λ state. onward (condition test state) (chosen first second)) (cond (is_nonzero t) u v)
  choice_means test first second t u v means means' means'' state =
      onward_splits (λ point f. HasValue point f (cond (is_nonzero t) u v)) (chosen first second)
      state P (λ point answer. P point × (answer ≡ is_nonzero t)) (condition test state) (condition_splits test t means state)
      (chosen_splits first second (is_nonzero t) u v means' means'')

  test_means : (part : Part) (v : ℤ) → Means part v → Means (test_made room part) (test_value (is_nonzero v))
  test_means part v means state =
      as_value_splits room state P (is_nonzero v) (condition part state)
      (changed state P P (λ point answer. P point × (answer ≡ is_nonzero v)) (λ point answer. answer ≡ is_nonzero v) (condition part state)
      (λ point p. p) (λ answer point longer x p is. is.1) (condition_splits part v means state))

  constant_means : (answer : Bool) → Means (gives (test_form room answer)) (test_value answer)
  constant_means answer state =
      gives_splits state P (λ point f. HasValue point f (test_value answer)) (test_form room answer) (λ point p. has_test point room answer answer refl)

  same_means : (part : Part) (u v : ℤ) → u ≡ v → Means part u → Means part v
  same_means part u v is means = subst (λ (z : ℤ). Means part z) is means

  -- a division by a number of at least 1
  divided_means : (part : Part) (v : ℤ) (d : ℕ) (value : ℤ) (pick : Parts → Form) → 1 ≤ d → Means part v
      → ((point : List ℤ) (p : Parts) → HaveParts v d point p → HasValue point (pick p) value)
      → Means (λ state. onward (part state) (λ f next. onward (parted room (pos d) f next) (λ p last. gives (pick p) last))) value
  divided_means part v d value pick some means picks state =
      onward_splits (λ point f. HasValue point f value) (λ f next. onward (parted room (pos d) f next) (λ p last. gives (pick p) last))
      state P (λ point f. HasValue point f v) (part state) (means state)
      (λ f next. onward_splits (λ point g. HasValue point g value) (λ p last. gives (pick p) last)
      next (λ point. HasValue point f v) (HaveParts v d) (parted room (pos d) f next) (parted_splits room d f v next some)
      (λ p last. gives_splits last (λ point. HaveParts v d point p) (λ point g. HasValue point g value) (pick p) (λ point have. picks point p have)))

  quotient_means : (part : Part) (v : ℤ) (f : Expression) (env : List ℤ) → IsDivisor f → Means part v
      → (other : Part) → Means (binary_walk room Div part other (divisor_of f)) (int_div v (eval f env))
  quotient_means part v (Num (pos d)) env divisor means other =
      divided_means part v d (int_div v (pos d)) (λ p. p.quotient) (omega (arith, ints, divisor)) means (λ point p have. have.quotient)
  quotient_means part v (Num (negsuc d)) env divisor means other = absurd (omega (arith, ints, divisor))
  quotient_means part v (Var x) env divisor means other = absurd divisor
  quotient_means part v (Un op e) env divisor means other = absurd divisor
  quotient_means part v (Bin op e g) env divisor means other = absurd divisor
  quotient_means part v (Cond c e g) env divisor means other = absurd divisor

  remainder_means : (part : Part) (v : ℤ) (f : Expression) (env : List ℤ) → IsDivisor f → Means part v
      → (other : Part) → Means (binary_walk room Rem part other (divisor_of f)) (int_rem v (eval f env))
  remainder_means part v (Num (pos d)) env divisor means other =
      divided_means part v d (int_rem v (pos d)) (λ p. p.rest) (omega (arith, ints, divisor)) means (λ point p have. have.rest)
  remainder_means part v (Num (negsuc d)) env divisor means other = absurd (omega (arith, ints, divisor))
  remainder_means part v (Var x) env divisor means other = absurd divisor
  remainder_means part v (Un op e) env divisor means other = absurd divisor
  remainder_means part v (Bin op e g) env divisor means other = absurd divisor
  remainder_means part v (Cond c e g) env divisor means other = absurd divisor

  binary_means : (op : BinOp) (p q : Part) (f : Expression) (env : List ℤ) (u : ℤ) → HasDivisor op f → Means p u → Means q (eval f env)
      → Means (binary_walk room op p q (divisor_of f)) (binary_value op u (eval f env))
  binary_means Mul p q f env u divisor means means' =
      both_means p q u (eval f env) (u *ℤ eval f env) (λ g h next. product_made (product_of g h) next) means means'
      (λ g h state. product_splits g h u (eval f env) state (is_constant g) (is_constant h) refl refl)
  binary_means Div p q f env u divisor means means' = quotient_means p u f env divisor means q
  binary_means Rem p q f env u divisor means means' = remainder_means p u f env divisor means q
  binary_means Add p q f env u divisor means means' =
      both_means p q u (eval f env) (u +ℤ eval f env) (λ g h next. made (sum_of g h) next) means means'
      (λ g h state. made_splits state (Values g h u (eval f env)) (λ point d. HasValue point d (u +ℤ eval f env)) (sum_of g h)
      (λ point have. has_sum point g h u (eval f env) have.0 have.1))
  binary_means Sub p q f env u divisor means means' =
      both_means p q u (eval f env) (u -ℤ eval f env) (λ g h next. made (difference_of g h) next) means means'
      (λ g h state. made_splits state (Values g h u (eval f env)) (λ point d. HasValue point d (u -ℤ eval f env)) (difference_of g h)
      (λ point have. has_difference point g h u (eval f env) have.0 have.1))
  binary_means Less p q f env u divisor means means' =
      comparison_means negative_signs is_negative negative_covers p q u (eval f env) (int_lt u (eval f env)) (sym (less_is u (eval f env))) means means'
  binary_means LessEq p q f env u divisor means means' =
      comparison_means not_positive_signs (λ d. not (is_positive d)) not_positive_covers p q u (eval f env) (int_le u (eval f env))
      (sym (less_equal_is u (eval f env))) means means'
  binary_means Greater p q f env u divisor means means' =
      comparison_means positive_signs is_positive positive_covers p q u (eval f env) (int_lt (eval f env) u) (sym (greater_is u (eval f env))) means means'
  binary_means GreaterEq p q f env u divisor means means' =
      comparison_means not_negative_signs (λ d. not (is_negative d)) not_negative_covers p q u (eval f env) (int_le (eval f env) u)
      (sym (greater_equal_is u (eval f env))) means means'
  binary_means Equal p q f env u divisor means means' =
      comparison_means zero_signs (λ d. not (is_nonzero d)) zero_covers p q u (eval f env) (are_equal u (eval f env))
      (sym (equal_is u (eval f env))) means means'
  binary_means NotEqual p q f env u divisor means means' =
      comparison_means nonzero_signs is_nonzero nonzero_covers p q u (eval f env) (not (are_equal u (eval f env)))
      (sym (not_equal_is u (eval f env))) means means'
  binary_means And p q f env u divisor means means' =
      same_means (binary_walk room And p q (divisor_of f)) (cond (is_nonzero u) (test_value (is_nonzero (eval f env))) (test_value false))
      (test_value (is_nonzero u && is_nonzero (eval f env))) (and_is (is_nonzero u) (is_nonzero (eval f env)))
      (choice_means p (test_made room q) (gives (test_form room false)) u (test_value (is_nonzero (eval f env))) (test_value false)
      means (test_means q (eval f env) means') (constant_means false))
  binary_means Or p q f env u divisor means means' =
      same_means (binary_walk room Or p q (divisor_of f)) (cond (is_nonzero u) (test_value true) (test_value (is_nonzero (eval f env))))
      (test_value (is_nonzero u || is_nonzero (eval f env))) (or_is (is_nonzero u) (is_nonzero (eval f env)))
      (choice_means p (gives (test_form room true)) (test_made room q) u (test_value true) (test_value (is_nonzero (eval f env)))
      means (constant_means true) (test_means q (eval f env) means'))

  -- the walk of an expression, where the variables' forms have the values of an environment
  module _ (forms : List Form) (env : List ℤ) (have : (point : List ℤ) → P point → HaveValues point forms env) where
    pub symbolic_means : (n : ℕ) (e : Expression) → CanEvaluate n e → Means (symbolic room forms e) (eval e env)
    symbolic_means n (Num z) can state =
        made_splits state P (λ point f. HasValue point f z) (constant_form room z) (λ point p. constant_has point room z z refl)
    symbolic_means n (Var x) can state =
        gives_splits state P (λ point f. HasValue point f (get_or env x (pos 0))) (get_or forms x (constant_form room (pos 0)))
        (λ point p. variable_has point room forms env x (have point p))
    symbolic_means n (Un op e) can state = unary_means op (symbolic room forms e) (eval e env) (symbolic_means n e can) state
    symbolic_means n (Bin op e f) can state =
        binary_means op (symbolic room forms e) (symbolic room forms f) f env (eval e env) can.2 (symbolic_means n e can.0) (symbolic_means n f can.1) state
    symbolic_means n (Cond c e f) can state =
        choice_means (symbolic room forms c) (symbolic room forms e) (symbolic room forms f) (eval c env) (eval e env) (eval f env)
        (symbolic_means n c can.0) (symbolic_means n e can.1) (symbolic_means n f can.2) state

pub law_of_expressions : LawOfExpressions
law_of_expressions room forms env n e state can =
    symbolic_means room (λ point. HaveValues point forms env) (λ point longer x have. have_longer point longer forms env x have) forms env (λ point have. have)
    n e can state
