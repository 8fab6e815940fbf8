-- A function of one `return` returns the value of its expression, and nothing else.
use Rattle.std.proofs.Common.{◌≡◌, ◌↔◌, ℕ, zero, suc, ◌+◌, ◌-◌, ◌<◌, ◌≤◌, ◌++◌, replicate, inl, inr, Bool, true, false, eqb, ◌||◌, List, [], ◌∷◌, length, Option, Some, refl, sym, ap, subst, ◌∙◌, arith}
use Rattle.std.specs.Prelude.{ℤ, pos, None, MatchOption, IfSome}
use Rattle.std.proofs.lemmas.Bool.{cases_lt}
use Rattle.std.proofs.Math.ListN.{get_or-append}
use Rattle.std.proofs.lemmas.Bool.Decides.{nat_tests}
use Rattle.c_ast.specs.declared.expr.Expr.{Expr}
use Rattle.c_ast.specs.declared.stmt.Stmt.TheVariants as stmt
use Rattle.c_ast.specs.Tree.{Expression, Num, Var, Un, Bin, Cond, Nil, Return}
use Rattle.c_ast.specs.View.{expression_of, statements_of}
use Rattle.c_ast.specs.Value.{eval, CanEvaluate}
use Rattle.c_ast.specs.Step.{Scope, Run, is_in, first_variables, spread, spread_from}
use Rattle.c_ast.specs.Formed.{IsOver, AreFormed}
use Rattle.c_ast.specs.Returns.{Returns, result_within}
use Rattle.c_ast.specs.Function.{Function, IsFunction, ReturnsOne, program_of}
use Rattle.c_ast.proofs.Fronts.{front-Return}

-- ---- the parameters' values begin the environment, and zeros follow

is_in-below : (n x : ℕ) → x < n → is_in (first_variables n) x ≡ true
is_in-below zero x below = absurd (omega arith)
is_in-below (suc n) x below = or_cases (eqb n x) (is_in (first_variables n) x) (λ not_equal. is_in-below n x (grind (arith, nat_tests)))
  where
    or_cases : (a b : Bool) → (a ≡ false → b ≡ true) → (a || b) ≡ true
    or_cases true b others = refl
    or_cases false b others = others refl

is_in-above : (n x : ℕ) → n ≤ x → is_in (first_variables n) x ≡ false
is_in-above zero x above = refl
is_in-above (suc n) x above = let other : eqb n x ≡ false = grind (arith, nat_tests) in rw (other, is_in-above n x (omega arith)) refl

below-is_in : (n x : ℕ) → is_in (first_variables n) x ≡ true → x < n
below-is_in n x is = elim (cases_lt x n) [ inl below ↦ below | inr above ↦ absurd (cc (is, is_in-above n x above)) ]

-- past the variables in scope there are zeros
spread_from-past : (scope : Scope) (i n : ℕ) (values : List ℤ) → ((x : ℕ) → i ≤ x → is_in scope x ≡ false) → spread_from (pos 0) scope i n values
    ≡ replicate n (pos 0)
spread_from-past scope i zero values none = refl
spread_from-past scope i (suc n) values none = rw (none i (omega arith))
    (ap (λ (l : List ℤ). pos 0 ∷ l) (spread_from-past scope (suc i) n values (λ x le. none x (omega arith))))

spread_from-first : (scope : Scope) (i n : ℕ) (values : List ℤ) → ((x : ℕ) → i ≤ x → x < i + length values → is_in scope x ≡ true)
    → ((x : ℕ) → i + length values ≤ x → is_in scope x ≡ false) → length values ≤ n → spread_from (pos 0) scope i n values
    ≡ values ++ replicate (n - length values) (pos 0)
spread_from-first scope i n [] all none le = let whole : n - 0 ≡ n = omega arith in rw whole (spread_from-past scope i n [] (λ x le. none x (omega arith)))
spread_from-first scope i zero (v ∷ values) all none le = absurd (omega arith)
spread_from-first scope i (suc n) (v ∷ values) all none le =
    let here : is_in scope i ≡ true = all i (omega arith) (omega arith) in
    let less : suc n - suc (length values) ≡ n - length values = omega arith in
    rw (here, less) (ap (λ (l : List ℤ). v ∷ l)
    (spread_from-first scope (suc i) n values (λ x le lt. all x (omega arith) (omega arith)) (λ x le. none x (omega arith)) (omega arith)))

spread-parameters : (n vars : ℕ) (values : List ℤ) → length values ≡ n → n ≤ vars → spread (first_variables n) vars values
    ≡ values ++ replicate (vars - n) (pos 0)
spread-parameters n vars values len le =
    let front = spread_from-first (first_variables n) 0 vars values (λ x low high. is_in-below n x (omega arith)) (λ x past. is_in-above n x (omega arith))
    (omega arith) in
    subst (λ (k : ℕ). spread (first_variables n) vars values ≡ values ++ replicate (vars - k) (pos 0)) len front

-- ---- an expression over the parameters

pub CanEvaluate-IsOver : (n : ℕ) (e : Expression) → IsOver (first_variables n) e → CanEvaluate n e
CanEvaluate-IsOver n (Num z) over = tt
CanEvaluate-IsOver n (Var x) over = below-is_in n x over
CanEvaluate-IsOver n (Un op e) over = CanEvaluate-IsOver n e over
CanEvaluate-IsOver n (Bin op e f) over = (CanEvaluate-IsOver n e over.0, CanEvaluate-IsOver n f over.1, over.2)
CanEvaluate-IsOver n (Cond c e f) over = (CanEvaluate-IsOver n c over.0, CanEvaluate-IsOver n e over.1, CanEvaluate-IsOver n f over.2)

-- values behind those of its variables make no difference
eval-append : (values others : List ℤ) (e : Expression) → CanEvaluate (length values) e → eval e (values ++ others) ≡ eval e values
eval-append values others (Num z) below = refl
eval-append values others (Var x) below = get_or-append values others (pos 0) x below
eval-append values others (Un op e) below = rw (eval-append values others e below) refl
eval-append values others (Bin op e f) below = rw (eval-append values others e below.0, eval-append values others f below.1) refl
eval-append values others (Cond c e f) below =
    rw (eval-append values others c below.0, eval-append values others e below.1, eval-append values others f below.2) refl

-- ---- one step

result_within-Return : (scope : Scope) (e : Expression) (steps : ℕ) (env : List ℤ) (value : ℤ) → result_within steps (Run scope (Return e Nil) ∷ []) env
    ≡ Some value → value ≡ eval e env
result_within-Return scope e zero env value ends = absurd cc
result_within-Return scope e (suc steps) env value ends = cc

statements_of-Return : (e : Expr) → statements_of (stmt.Return e ∷ []) ≡ Return (expression_of e) Nil
statements_of-Return e = front-Return e Nil

returned_over : (f : Function) (e : Expr) → IsFunction f → ReturnsOne f e → IsOver (first_variables f.params) (expression_of e)
returned_over f e is one =
    (subst (AreFormed (length f.vars) (first_variables f.params) false) (ap statements_of one ∙ statements_of-Return e) is.formed).0

pub returned_below : (f : Function) (e : Expr) → IsFunction f → ReturnsOne f e → CanEvaluate f.params (expression_of e)
returned_below f e is one = CanEvaluate-IsOver f.params (expression_of e) (returned_over f e is one)

pub Returns-Return : (f : Function) (e : Expr) → IsFunction f → ReturnsOne f e → (inputs : List ℤ) (value : ℤ) → length inputs ≡ f.params
    → (Returns (program_of f) inputs value ↔ (value ≡ eval (expression_of e) inputs))
Returns-Return f e is one inputs value len =
    let body : statements_of f.body ≡ Return (expression_of e) Nil = ap statements_of one ∙ statements_of-Return e in
    let scope = first_variables f.params in
    let zeros = replicate (length f.vars - f.params) (pos 0) in
    let env : spread scope (length f.vars) inputs ≡ inputs ++ zeros = spread-parameters f.params (length f.vars) inputs len is.parameters in
    let below : CanEvaluate (length inputs) (expression_of e) = subst (λ (n : ℕ). CanEvaluate n (expression_of e)) (sym len) (returned_below f e is one) in
    let same : eval (expression_of e) (inputs ++ zeros) ≡ eval (expression_of e) inputs = eval-append inputs zeros (expression_of e) below in (
      λ returns. result_within-Return scope (expression_of e) returns.steps (inputs ++ zeros) value (rw (body, env) at returns.ends) ∙ same,
      λ equal. record { steps = 1; ends = rw (body, env) (ap Some (same ∙ sym equal)) },
    )

-- What follows from the second case holds of the value, if there is one.
pub IfSome-from_cases : {X : Type 0} (o : Option X) (P : Type 0) (Q R : X → Type 0) → MatchOption o P Q → ((x : X) → Q x → R x) → IfSome o R
IfSome-from_cases None P Q R cases follows = tt
IfSome-from_cases (Some x) P Q R cases follows = follows x cases
