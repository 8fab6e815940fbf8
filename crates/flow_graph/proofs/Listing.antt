-- The variables in scope at a place, listed by rising number.
use Rattle.std.proofs.lemmas.Bool.{eqb-true, eq-eqb}
use Rattle.std.proofs.lemmas.Bool.Decides.{nat_tests}
use Rattle.std.proofs.Common.{◌≡◌, ℕ, zero, suc, ◌+◌, ◌-◌, ◌<◌, ◌≤◌, Bool, true, false, eqb, ◌||◌, List, [], ◌∷◌, ◌++◌, length, nat_lt, All, ℤ, pos, refl, sym, ap, ◌∙◌, subst, arith, append_assoc, append-nil}
use Rattle.c_ast.specs.Step.{Scope, is_in, first_variables, spread_one, spread_from, spread}
use Rattle.c_ast.specs.Scope.{with_variable, variables_from, variables_in}
use Rattle.c_ast.proofs.Laws.{first_variables_are_below, listed_are_below}

-- ---- a listed scope is the scope

not_before : (s : Scope) (x n y : ℕ) → y < x → is_in (variables_from s x n) y ≡ false
not_before s x zero y below = refl
not_before s x (suc n) y below = on (is_in s x) (not_before s (suc x) n y (omega arith))
  where
    on : (t : Bool) → is_in (variables_from s (suc x) n) y ≡ false → is_in (with_variable t x (variables_from s (suc x) n)) y ≡ false
    on true more = let other : eqb x y ≡ false = grind (arith, nat_tests) in rw (other, more)
    on false more = more

is_in-variables_from : (s : Scope) (x n y : ℕ) → x ≤ y → y < x + n → is_in (variables_from s x n) y ≡ is_in s y
is_in-variables_from s x zero y from below = absurd (omega arith)
is_in-variables_from s x (suc n) y from below = at (eqb x y) refl (λ past. is_in-variables_from s (suc x) n y past (omega arith))
  where
    here : (t : Bool) → is_in s x ≡ t → x ≡ y → is_in (with_variable t x (variables_from s (suc x) n)) y ≡ t
    here true is same = ap (λ (b : Bool). b || is_in (variables_from s (suc x) n) y) (eq-eqb x y same)
    here false is same = not_before s (suc x) n y (omega (arith, same))

    later : (t : Bool) → eqb x y ≡ false → is_in (with_variable t x (variables_from s (suc x) n)) y ≡ is_in (variables_from s (suc x) n) y
    later true other = ap (λ (b : Bool). b || is_in (variables_from s (suc x) n) y) other
    later false other = refl

    at : (t : Bool) → eqb x y ≡ t → (suc x ≤ y → is_in (variables_from s (suc x) n) y ≡ is_in s y)
        → is_in (with_variable (is_in s x) x (variables_from s (suc x) n)) y ≡ is_in s y
    at true is more = let same : x ≡ y = eqb-true x y is in here (is_in s x) refl same ∙ ap (is_in s) same
    at false is more = later (is_in s x) is ∙ more (grind (arith, nat_tests))

spread_one-same : (t : Bool) (values : List ℤ) (f g : List ℤ → List ℤ) → ((v : List ℤ) → f v ≡ g v) → spread_one (pos 0) t values f
    ≡ spread_one (pos 0) t values g
spread_one-same true [] f g same = ap (λ (z : List ℤ). pos 0 ∷ z) (same [])
spread_one-same true (v ∷ values) f g same = ap (λ (z : List ℤ). v ∷ z) (same values)
spread_one-same false values f g same = ap (λ (z : List ℤ). pos 0 ∷ z) (same values)

spread_from-same : (a b : Scope) (i n : ℕ) (values : List ℤ) → ((x : ℕ) → i ≤ x → x < i + n → is_in a x ≡ is_in b x) → spread_from (pos 0) a i n values
    ≡ spread_from (pos 0) b i n values
spread_from-same a b i zero values same = refl
spread_from-same a b i (suc n) values same =
    ap (λ (t : Bool). spread_one (pos 0) t values (spread_from (pos 0) a (suc i) n)) (same i (omega arith) (omega arith))
    ∙ spread_one-same (is_in b i) values (spread_from (pos 0) a (suc i) n) (spread_from (pos 0) b (suc i) n)
    (λ v. spread_from-same a b (suc i) n v (λ x from below. same x (omega arith) (omega arith)))

pub spread-variables_in : (s : Scope) (n : ℕ) (values : List ℤ) → spread (variables_in s n) n values ≡ spread s n values
spread-variables_in s n values = spread_from-same (variables_in s n) s 0 n values (λ x from below. is_in-variables_from s 0 n x from below)

-- ---- one variable after another

-- what is listed so far, with those that are still to come
pub record ListsVariables (scope : Scope) (n x : ℕ) (variables : List ℕ) : Type 0 where
  pub is : variables ++ variables_from scope x (n - x) ≡ variables_in scope n

variables_from-next : (scope : Scope) (n x : ℕ) → x < n → variables_from scope x (n - x)
    ≡ with_variable (is_in scope x) x (variables_from scope (suc x) (n - suc x))
variables_from-next scope n x below = let e : n - x ≡ suc (n - suc x) = omega arith in ap (variables_from scope x) e

lists_one : (scope : Scope) (n x next : ℕ) (variables : List ℕ) → next ≡ suc x → x < n → is_in scope x ≡ true → ListsVariables scope n x variables
    → ListsVariables scope n next (variables ++ x ∷ [])
lists_one scope n x next variables next_is below holds lists =
    let first = variables_from-next scope n x below ∙ ap (λ (t : Bool). with_variable t x (variables_from scope (suc x) (n - suc x))) holds in
    record {
      is = rw next_is (append_assoc variables (x ∷ []) (variables_from scope (suc x) (n - suc x)) ∙ ap (λ (z : List ℕ). variables ++ z) (sym first)
          ∙ lists.is);
    }

-- ---- the parameters, one after another

none_past : (p x n : ℕ) → p ≤ x → variables_from (first_variables p) x n ≡ []
none_past p x zero past = refl
none_past p x (suc n) past =
    let out : is_in (first_variables p) x ≡ false = first_variables_are_below p x ∙ grind (arith, nat_tests) in
    ap (λ (t : Bool). with_variable t x (variables_from (first_variables p) (suc x) n)) out ∙ none_past p (suc x) n (omega arith)

pub parameter_listed : (p n x next : ℕ) (old new : List ℕ) → next ≡ suc x → x < p → p ≤ n → ListsVariables (first_variables p) n x old → new ≡ old ++ x ∷ []
    → ListsVariables (first_variables p) n next new
parameter_listed p n x next old new next_is below le lists new_is =
    let within : is_in (first_variables p) x ≡ true = first_variables_are_below p x ∙ grind (arith, nat_tests) in
    subst (λ (z : List ℕ). ListsVariables (first_variables p) n next z) (sym new_is)
    (lists_one (first_variables p) n x next old next_is (omega arith) within lists)

pub parameters_listed : (p n x : ℕ) (variables : List ℕ) → p ≤ x → ListsVariables (first_variables p) n x variables → variables
    ≡ variables_in (first_variables p) n
parameters_listed p n x variables past lists = sym (append-nil variables) ∙ ap (λ (z : List ℕ). variables ++ z) (sym (none_past p x (n - x) past)) ∙ lists.is

-- the parameters are as many as they are
count_from : (p x n : ℕ) → x ≤ p → p ≤ x + n → x + length (variables_from (first_variables p) x n) ≡ p
count_from p x zero from upto = omega arith
count_from p x (suc n) from upto = on (nat_lt x p) refl (λ more. count_from p (suc x) n more (omega arith))
  where
    on : (t : Bool) → nat_lt x p ≡ t → (suc x ≤ p → suc x + length (variables_from (first_variables p) (suc x) n) ≡ p)
        → x + length (with_variable (is_in (first_variables p) x) x (variables_from (first_variables p) (suc x) n)) ≡ p
    on true is more =
        let here = ap (λ (t : Bool). x + length (with_variable t x (variables_from (first_variables p) (suc x) n))) (first_variables_are_below p x ∙ is) in
        here ∙ (let later = more (grind (arith, nat_tests)) in omega (arith, later))
    on false is more =
        let here = ap (λ (t : Bool). x + length (with_variable t x (variables_from (first_variables p) (suc x) n))) (first_variables_are_below p x ∙ is) in
        let past : p ≤ x = grind (arith, nat_tests) in
        here ∙ (let none = ap length (none_past p (suc x) n (omega (arith, past))) in omega (arith, none, past))

pub parameters_counted : (p n : ℕ) → p ≤ n → length (variables_in (first_variables p) n) ≡ p
parameters_counted p n within = let all = count_from p 0 n (omega arith) (omega arith) in omega (arith, all)

-- those in scope are among the variables
pub variables_in-All : (s : Scope) (n : ℕ) → All (λ x. x < n) (variables_in s n)
variables_in-All s n = λ k d below. listed_are_below s n k d below
