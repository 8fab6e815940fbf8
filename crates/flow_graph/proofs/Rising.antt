-- Lists of numbers that rise.
use Rattle.std.proofs.Common.{◌≡◌, ℕ, zero, suc, ◌+◌, ◌<◌, ◌≤◌, Bool, true, false, List, [], ◌∷◌, length, All, sym, subst, arith}
use Rattle.std.specs.Prelude.{slice_index}
use Rattle.std.specs.List.Sorted.{IsStrictlyIncreasing}
use Rattle.std.proofs.lemmas.List.Elements.{All-head, All-tail}
use Rattle.c_ast.specs.Step.{Scope, is_in}
use Rattle.c_ast.specs.Scope.{with_variable, variables_from, variables_in}

pub one_increases : (x : ℕ) → IsStrictlyIncreasing (x ∷ [])
one_increases x = λ k below. absurd (omega arith)

after_next : (k : ℕ) → suc (k + 1) ≡ suc k + 1
after_next k = omega arith

pub front_increases : (x y : ℕ) (ys : List ℕ) → x < y → IsStrictlyIncreasing (y ∷ ys) → IsStrictlyIncreasing (x ∷ y ∷ ys)
front_increases x y ys below rising zero within = below
front_increases x y ys below rising (suc k) within = subst (λ (i : ℕ). slice_index (y ∷ ys) k < slice_index (x ∷ y ∷ ys) i) (after_next k)
    (rising k (omega arith))

pub first_below : (x y : ℕ) (ys : List ℕ) → IsStrictlyIncreasing (x ∷ y ∷ ys) → x < y
first_below x y ys rising = rising 0 (omega arith)

pub others_increase : (x : ℕ) (xs : List ℕ) → IsStrictlyIncreasing (x ∷ xs) → IsStrictlyIncreasing xs
others_increase x xs rising = λ k within. subst (λ (i : ℕ). slice_index xs k < slice_index (x ∷ xs) i) (sym (after_next k)) (rising (suc k) (omega arith))

pub none_increase : IsStrictlyIncreasing []
none_increase = λ k below. absurd (omega arith)

-- numbers below n that rise are at most n
as_many_from : (n x : ℕ) (xs : List ℕ) → IsStrictlyIncreasing (x ∷ xs) → All (λ y. y < n) (x ∷ xs) → x + length (x ∷ xs) ≤ n
as_many_from n x [] rising below = omega (arith, All-head (λ (y : ℕ). y < n) x [] below)
as_many_from n x (y ∷ ys) rising below =
    omega (arith, first_below x y ys rising, as_many_from n y ys (others_increase x (y ∷ ys) rising) (All-tail (λ (z : ℕ). z < n) x (y ∷ ys) below))

pub as_many_below : (n : ℕ) (xs : List ℕ) → IsStrictlyIncreasing xs → All (λ y. y < n) xs → length xs ≤ n
as_many_below n [] rising below = omega arith
as_many_below n (x ∷ xs) rising below = omega (arith, as_many_from n x xs rising below)

-- ---- the variables in scope are listed so

rise_past : (scope : Scope) (low x n : ℕ) → low < x → IsStrictlyIncreasing (low ∷ variables_from scope x n)
rise_past scope low x zero past = one_increases low
rise_past scope low x (suc n) past = on (is_in scope x) (rise_past scope x (suc x) n (omega arith)) (rise_past scope low (suc x) n (omega arith))
  where
    on : (t : Bool) → IsStrictlyIncreasing (x ∷ variables_from scope (suc x) n) → IsStrictlyIncreasing (low ∷ variables_from scope (suc x) n)
        → IsStrictlyIncreasing (low ∷ with_variable t x (variables_from scope (suc x) n))
    on true here later = front_increases low x (variables_from scope (suc x) n) past here
    on false here later = later

listed_from_rise : (scope : Scope) (x n : ℕ) → IsStrictlyIncreasing (variables_from scope x n)
listed_from_rise scope x zero = none_increase
listed_from_rise scope x (suc n) = on (is_in scope x) (rise_past scope x (suc x) n (omega arith)) (listed_from_rise scope (suc x) n)
  where
    on : (t : Bool) → IsStrictlyIncreasing (x ∷ variables_from scope (suc x) n) → IsStrictlyIncreasing (variables_from scope (suc x) n)
        → IsStrictlyIncreasing (with_variable t x (variables_from scope (suc x) n))
    on true here later = here
    on false here later = later

pub listed_rise : (scope : Scope) (n : ℕ) → IsStrictlyIncreasing (variables_in scope n)
listed_rise scope n = listed_from_rise scope 0 n
