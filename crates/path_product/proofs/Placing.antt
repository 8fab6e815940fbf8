-- Numbers over other columns.
use Rattle.std.proofs.Common.{◌≡◌, ℕ, zero, suc, ◌-◌, ◌≤◌, List, [], ◌∷◌, ◌++◌, length, take, replicate, min, refl, sym, ap, ◌∙◌, append_assoc, arith}
use Rattle.std.specs.Prelude.{ℤ, pos}
use Rattle.sym_paths.specs.Cases.{fitted}

-- so many zeros and more, of which the first are taken
zeros_taken : (n m : ℕ) → n ≤ m → take n (replicate m (pos 0)) ≡ replicate n (pos 0)
zeros_taken zero m few = refl
zeros_taken (suc n) zero few = absurd (omega arith)
zeros_taken (suc n) (suc m) few = ap (λ (zs : List ℤ). pos 0 ∷ zs) (zeros_taken n m (omega arith))

fitted_among : (numbers : List ℤ) (n m k : ℕ) → k ≡ min (length numbers) n → n ≤ m
    → take k numbers ++ replicate (n - k) (pos 0) ≡ take n (numbers ++ replicate m (pos 0))
fitted_among [] zero m k is few =
    let none : k ≡ 0 = omega (arith, is) in ap (λ (j : ℕ). take {A = ℤ} j [] ++ replicate (0 - j) (pos 0)) none
fitted_among [] (suc n) m k is few =
    let none : k ≡ 0 = omega (arith, is) in
    let all : suc n - 0 ≡ suc n = omega arith in
    ap (λ (j : ℕ). take {A = ℤ} j [] ++ replicate (suc n - j) (pos 0)) none ∙ ap (λ (j : ℕ). replicate j (pos 0)) all
    ∙ sym (zeros_taken (suc n) m few)
fitted_among (x ∷ numbers) zero m k is few =
    let none : k ≡ 0 = omega (arith, is) in ap (λ (j : ℕ). take j (x ∷ numbers) ++ replicate (0 - j) (pos 0)) none
fitted_among (x ∷ numbers) (suc n) m zero is few = absurd (omega (arith, is))
fitted_among (x ∷ numbers) (suc n) m (suc k) is few =
    let one_less : suc n - suc k ≡ n - k = omega arith in
    ap (λ (j : ℕ). x ∷ (take k numbers ++ replicate j (pos 0))) one_less
    ∙ ap (λ (zs : List ℤ). x ∷ zs) (fitted_among numbers n m k (omega (arith, is)) (omega arith))

pub fitted_is : (numbers : List ℤ) (n k : ℕ) → k ≡ min (length numbers) n
    → take k numbers ++ replicate (n - k) (pos 0) ≡ fitted n numbers
fitted_is numbers n k is = fitted_among numbers n n k is (omega arith)

-- what joins
pub joins_fitted : (old between new numbers : List ℤ) (n k : ℕ) → k ≡ min (length numbers) n
    → between ≡ old ++ take k numbers → new ≡ between ++ replicate (n - k) (pos 0) → new ≡ old ++ fitted n numbers
joins_fitted old between new numbers n k is first second =
    second ∙ ap (λ (zs : List ℤ). zs ++ replicate (n - k) (pos 0)) first ∙ append_assoc old (take k numbers) (replicate (n - k) (pos 0))
    ∙ ap (λ (zs : List ℤ). old ++ zs) (fitted_is numbers n k is)
