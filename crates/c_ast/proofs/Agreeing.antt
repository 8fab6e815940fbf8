-- What variables out of scope hold makes no difference.
use Rattle.std.proofs.Common.{◌≡◌, ℕ, zero, suc, ◌+◌, Bool, true, false, cond, eqb, ◌||◌, List, [], ◌∷◌, length, ℤ, pos, get_or, set, refl, sym, ap, ◌∙◌, subst, arith, length-set, get_or-set_other}
use Rattle.std.proofs.lemmas.Bool.{eqb-true, eqb-false}
use Rattle.c_ast.specs.Tree.{Expression, Num, Var, Un, Bin, Cond}
use Rattle.c_ast.specs.Value.{eval, unary_value, is_nonzero}
use Rattle.c_ast.specs.Step.{Scope, is_in, with_value, values_from, values_in, spread_one, spread_from, spread}
use Rattle.c_ast.specs.Formed.{IsOver}
use Rattle.c_ast.specs.Agreement.{Agree, Within}
use Rattle.c_ast.proofs.Lengths.{length-spread_from}

pub within_itself : (scope : Scope) → Within scope scope
within_itself scope = record { by = λ x inside. inside }

pub within_both : (a b c : Scope) → Within a b → Within b c → Within a c
within_both a b c first second = record { by = λ x inside. second.by x (first.by x inside) }

newest : (b c : Bool) → c ≡ true → (b || c) ≡ true
newest true c e = refl
newest false c e = e

pub within_more : (x : ℕ) (scope : Scope) → Within scope (x ∷ scope)
within_more x scope = record { by = λ y inside. newest (eqb x y) (is_in scope y) inside }

pub agree_within : (n : ℕ) (inner outer : Scope) (a b : List ℤ) → Within inner outer → Agree n outer a b → Agree n inner a b
agree_within n inner outer a b within same = record { left = same.left; right = same.right; agree = λ x inside. same.agree x (within.by x inside) }

pub agree_itself : (n : ℕ) (scope : Scope) (a : List ℤ) → length a ≡ n → Agree n scope a a
agree_itself n scope a long = record { left = long; right = long; agree = λ x inside. refl }

pub agree_both : (n : ℕ) (scope : Scope) (a b c : List ℤ) → Agree n scope a b → Agree n scope b c → Agree n scope a c
agree_both n scope a b c first second = record { left = first.left; right = second.right; agree = λ x inside. first.agree x inside ∙ second.agree x inside }

-- An expression over the variables in scope has one value in both.
pub eval_agree : (e : Expression) (n : ℕ) (scope : Scope) (a b : List ℤ) → Agree n scope a b → IsOver scope e
    → eval e a ≡ eval e b
eval_agree (Num z) n scope a b same over = refl
eval_agree (Var x) n scope a b same over = same.agree x over
eval_agree (Un op e) n scope a b same over = ap (unary_value op) (eval_agree e n scope a b same over)
eval_agree (Bin op e f) n scope a b same over =
    let first = eval_agree e n scope a b same over.0 in
    let second = eval_agree f n scope a b same over.1 in
    rw (first, second)
eval_agree (Cond c e f) n scope a b same over =
    let test = eval_agree c n scope a b same over.0 in
    let first = eval_agree e n scope a b same over.1 in
    let second = eval_agree f n scope a b same over.2 in
    ap (λ (z : ℤ). cond (is_nonzero z) (eval e a) (eval f a)) test ∙ ap (λ (z : ℤ). cond (is_nonzero (eval c b)) z (eval f a)) first
    ∙ ap (λ (z : ℤ). cond (is_nonzero (eval c b)) (eval e b) z) second

set_both : (a b : List ℤ) (x : ℕ) (v : ℤ) → length a ≡ length b → get_or (set a x v) x (pos 0) ≡ get_or (set b x v) x (pos 0)
set_both [] [] x v long = refl
set_both [] (w ∷ b) x v long = cc
set_both (u ∷ a) [] x v long = cc
set_both (u ∷ a) (w ∷ b) zero v long = refl
set_both (u ∷ a) (w ∷ b) (suc x) v long = set_both a b x v (omega arith)

-- The variable that takes a value in both is in scope from then on.
pub agree_set : (n : ℕ) (scope : Scope) (a b : List ℤ) (x : ℕ) (v w : ℤ) → v ≡ w → Agree n scope a b
    → Agree n (x ∷ scope) (set a x v) (set b x w)
agree_set n scope a b x v w e same = subst (λ (z : ℤ). Agree n (x ∷ scope) (set a x v) (set b x z)) e (record {
  left = length-set a x v ∙ same.left;
  right = length-set b x v ∙ same.right;
  agree = λ y inside. at y (eqb x y) refl inside;
})
  where
    at : (y : ℕ) (t : Bool) → eqb x y ≡ t → (t || is_in scope y) ≡ true
        → get_or (set a x v) y (pos 0) ≡ get_or (set b x v) y (pos 0)
    at y true is inside = subst (λ (k : ℕ). get_or (set a x v) k (pos 0) ≡ get_or (set b x v) k (pos 0)) (eqb-true x y is)
        (set_both a b x v (same.left ∙ sym same.right))
    at y false is inside =
        get_or-set_other a x y v (pos 0) (λ p. eqb-false x y is (sym p)) ∙ same.agree y inside
        ∙ sym (get_or-set_other b x y v (pos 0) (λ p. eqb-false x y is (sym p)))

-- ---- the values in scope

-- The values in scope, spread again, are where they were.
spread-values : (scope : Scope) (i : ℕ) (a : List ℤ) (x : ℕ) → is_in scope (i + x) ≡ true
    → get_or (spread_from (pos 0) scope i (length a) (values_from scope i a)) x (pos 0) ≡ get_or a x (pos 0)
spread-values scope i [] x inside = refl
spread-values scope i (v ∷ a) zero inside = here (is_in scope i) (let e : i + 0 ≡ i = omega arith in rw e at inside)
  where
    here : (t : Bool) → t ≡ true
        → get_or (spread_one (pos 0) t (with_value t v (values_from scope (suc i) a)) (spread_from (pos 0) scope (suc i) (length a))) zero (pos 0) ≡ v
    here true e = refl
    here false e = cc
spread-values scope i (v ∷ a) (suc x) inside =
    there (is_in scope i) (spread-values scope (suc i) a x (let e : i + suc x ≡ suc i + x = omega arith in rw e at inside))
  where
    there : (t : Bool) → get_or (spread_from (pos 0) scope (suc i) (length a) (values_from scope (suc i) a)) x (pos 0) ≡ get_or a x (pos 0)
        → get_or (spread_one (pos 0) t (with_value t v (values_from scope (suc i) a)) (spread_from (pos 0) scope (suc i) (length a))) (suc x) (pos 0)
        ≡ get_or a x (pos 0)
    there true e = e
    there false e = e

-- An environment agrees with the one that has its values in scope and 0 elsewhere.
pub agree_spread : (n : ℕ) (scope : Scope) (a : List ℤ) → length a ≡ n → Agree n scope a (spread scope n (values_in scope a))
agree_spread n scope a long = subst (λ (m : ℕ). Agree m scope a (spread scope m (values_in scope a))) long (record {
  left = refl;
  right = length-spread_from (pos 0) scope 0 (length a) (values_in scope a);
  agree = λ x inside. sym (spread-values scope 0 a x (let e : 0 + x ≡ x = omega arith in rw e inside));
})
