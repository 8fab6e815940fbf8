-- The first environment, and the values of the variables in scope.
use Rattle.std.proofs.Common.{◌≡◌, ℕ, zero, suc, ◌+◌, ◌-◌, ◌<◌, ◌≤◌, Bool, true, false, nat_lt, List, [], ◌∷◌, ◌++◌, map, length, get_or, drop, ℤ, pos, refl, sym, ap, ◌∙◌, subst, arith, append_assoc, append-nil, drop-cons, drop_of_length-le}
use Rattle.std.proofs.lemmas.Bool.Decides.{nat_tests}
use Rattle.c_ast.specs.Step.{Scope, is_in, first_variables, with_value, values_from, values_in, spread_from, spread}
use Rattle.c_ast.specs.Scope.{with_variable, variables_from, variables_in}
use Rattle.c_ast.proofs.InScope.{is_in-first_variables}

-- ---- the inputs, and 0 behind them

get_or_past : (xs : List ℤ) (k : ℕ) → length xs ≤ k → get_or xs k (pos 0) ≡ pos 0
get_or_past [] k over = refl
get_or_past (x ∷ xs) zero over = absurd (omega arith)
get_or_past (x ∷ xs) (suc k) over = get_or_past xs k (omega arith)

spread_from-input : (inputs : List ℤ) (x m : ℕ)
    → spread_from (pos 0) (first_variables (length inputs)) x (suc m) (drop x inputs)
    ≡ get_or inputs x (pos 0) ∷ spread_from (pos 0) (first_variables (length inputs)) (suc x) m (drop (suc x) inputs)
spread_from-input inputs x m = on (nat_lt x (length inputs)) refl
  where
    on : (t : Bool) → nat_lt x (length inputs) ≡ t
        → spread_from (pos 0) (first_variables (length inputs)) x (suc m) (drop x inputs)
        ≡ get_or inputs x (pos 0) ∷ spread_from (pos 0) (first_variables (length inputs)) (suc x) m (drop (suc x) inputs)
    on true is =
        let below : x < length inputs = grind (arith, nat_tests) in
        rw (is_in-first_variables (length inputs) x, is, drop-cons inputs x (pos 0) below)
    on false is =
        let over : length inputs ≤ x = grind (arith, nat_tests) in
        let over' : length inputs ≤ suc x = omega arith in
        rw (is_in-first_variables (length inputs) x, is, drop_of_length-le inputs over, drop_of_length-le inputs over', get_or_past inputs x over)

-- what is listed so far, with what is still to come
pub record ListsInputs (inputs : List ℤ) (n x : ℕ) (values : List ℤ) : Type 0 where
  pub is : values ++ spread_from (pos 0) (first_variables (length inputs)) x (n - x) (drop x inputs) ≡ spread (first_variables (length inputs)) n inputs

pub inputs_none : (inputs : List ℤ) (n : ℕ) → ListsInputs inputs n 0 []
inputs_none inputs n = record { is = (let e : n - 0 ≡ n = omega arith in ap (λ (m : ℕ). spread_from (pos 0) (first_variables (length inputs)) 0 m inputs) e) }

pub inputs_one : (inputs : List ℤ) (n x next : ℕ) (values : List ℤ) (value : ℤ) → next ≡ suc x → x < n → value ≡ get_or inputs x (pos 0)
    → ListsInputs inputs n x values → ListsInputs inputs n next (values ++ value ∷ [])
inputs_one inputs n x next values value next_is below value_is lists =
    let e : n - x ≡ suc (n - suc x) = omega arith in
    record {
      is = rw (next_is, value_is)
          (append_assoc values (get_or inputs x (pos 0) ∷ []) (spread_from (pos 0) (first_variables (length inputs)) (suc x) (n - suc x) (drop (suc x) inputs))
          ∙ ap (λ (z : List ℤ). values ++ z)
          (sym (ap (λ (m : ℕ). spread_from (pos 0) (first_variables (length inputs)) x m (drop x inputs)) e ∙ spread_from-input inputs x (n - suc x)))
          ∙ lists.is);
    }

pub inputs_all : (inputs : List ℤ) (n x : ℕ) (values : List ℤ) → n ≤ x → ListsInputs inputs n x values → values
    ≡ spread (first_variables (length inputs)) n inputs
inputs_all inputs n x values over lists =
    let e : n - x ≡ 0 = omega arith in
    sym (append-nil values) ∙ ap (λ (m : ℕ). values ++ spread_from (pos 0) (first_variables (length inputs)) x m (drop x inputs)) (sym e) ∙ lists.is

-- ---- the values of the variables in scope

values_listed : (s : Scope) (x : ℕ) (all env : List ℤ) → ((k : ℕ) → get_or all (x + k) (pos 0) ≡ get_or env k (pos 0))
    → map (λ y. get_or all y (pos 0)) (variables_from s x (length env)) ≡ values_from s x env
values_listed s x all [] at = refl
values_listed s x all (v ∷ env) at =
    both (is_in s x) (let e : x + 0 ≡ x = omega arith in subst (λ (k : ℕ). get_or all k (pos 0) ≡ v) e (at 0))
    (values_listed s (suc x) all env (λ k. let e : suc x + k ≡ x + suc k = omega arith in rw e (at (suc k))))
  where
    both : (t : Bool) → get_or all x (pos 0) ≡ v → map (λ y. get_or all y (pos 0)) (variables_from s (suc x) (length env)) ≡ values_from s (suc x) env
        → map (λ y. get_or all y (pos 0)) (with_variable t x (variables_from s (suc x) (length env))) ≡ with_value t v (values_from s (suc x) env)
    both true here others = rw (here, others)
    both false here others = others

pub values_in-listed : (s : Scope) (env : List ℤ) → map (λ y. get_or env y (pos 0)) (variables_in s (length env)) ≡ values_in s env
values_in-listed s env = values_listed s 0 env env (λ k. let e : 0 + k ≡ k = omega arith in rw e)

variables_from-below : (s : Scope) (x n k d : ℕ) → k < length (variables_from s x n) → get_or (variables_from s x n) k d < x + n
variables_from-below s x zero k d below = absurd (omega arith)
variables_from-below s x (suc n) k d below = both (is_in s x) k below (λ k lt. variables_from-below s (suc x) n k d lt)
  where
    both : (t : Bool) (k : ℕ) → k < length (with_variable t x (variables_from s (suc x) n))
        → ((k : ℕ) → k < length (variables_from s (suc x) n) → get_or (variables_from s (suc x) n) k d < suc x + n)
        → get_or (with_variable t x (variables_from s (suc x) n)) k d < x + suc n
    both true zero below others = omega arith
    both true (suc k) below others = omega (arith, others k (omega arith))
    both false k below others = omega (arith, others k below)

pub variables_in-below : (s : Scope) (n k d : ℕ) → k < length (variables_in s n) → get_or (variables_in s n) k d < n
variables_in-below s n k d below = omega (arith, variables_from-below s 0 n k d below)
