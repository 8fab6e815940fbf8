-- Small coefficients have no common divisor exactly where one of them has size 1.
use Rattle.std.proofs.Common.{◌≡◌, ℕ, zero, suc, ◌≤◌, ◌⊎◌, inl, inr, ◌↔◌, List, [], ◌∷◌, ◌==◌, if◌then◌else◌, arith, refl}
use Rattle.std.specs.Prelude.{ℤ, pos, negsuc, unsigned_abs}
use Rattle.lin_terms.specs.Divisor.{gcd_steps, gcd_with, gcd_of}
use Rattle.miners.proofs.Listings.{Each}

-- How many entries have this size.
abbrev pub count_size : ℕ → List ℤ → ℕ
count_size n [] = 0
count_size n (x ∷ xs) = if unsigned_abs x == n then suc (count_size n xs) else count_size n xs

-- The entry is from -2 to 2.
abbrev pub IsSmall : ℤ → Type 0
IsSmall x = unsigned_abs x ≤ 2

one_stays : (xs : List ℤ) → Each IsSmall xs → gcd_with 1 xs ≡ 1
unfolding gcd_steps
one_stays [] s = refl
one_stays (pos zero ∷ xs) s = one_stays xs s.1
one_stays (pos (suc zero) ∷ xs) s = one_stays xs s.1
one_stays (pos (suc (suc zero)) ∷ xs) s = one_stays xs s.1
one_stays (pos (suc (suc (suc n))) ∷ xs) s = absurd (omega (arith, s.0))
one_stays (negsuc zero ∷ xs) s = one_stays xs s.1
one_stays (negsuc (suc zero) ∷ xs) s = one_stays xs s.1
one_stays (negsuc (suc (suc n)) ∷ xs) s = absurd (omega (arith, s.0))

abbrev Two : List ℤ → Type 0
Two xs = ((1 ≤ count_size 1 xs) × (gcd_with 2 xs ≡ 1)) ⊎ ((count_size 1 xs ≡ 0) × (gcd_with 2 xs ≡ 2))

from_two : (xs : List ℤ) → Each IsSmall xs → Two xs
unfolding gcd_steps
from_two [] s = inr (refl, refl)
from_two (pos zero ∷ xs) s = from_two xs s.1
from_two (pos (suc zero) ∷ xs) s = inl (omega arith, one_stays xs s.1)
from_two (pos (suc (suc zero)) ∷ xs) s = from_two xs s.1
from_two (pos (suc (suc (suc n))) ∷ xs) s = absurd (omega (arith, s.0))
from_two (negsuc zero ∷ xs) s = inl (omega arith, one_stays xs s.1)
from_two (negsuc (suc zero) ∷ xs) s = from_two xs s.1
from_two (negsuc (suc (suc n)) ∷ xs) s = absurd (omega (arith, s.0))

abbrev Any : List ℤ → Type 0
Any xs = ((1 ≤ count_size 1 xs) × (gcd_with 0 xs ≡ 1)) ⊎ ((count_size 1 xs ≡ 0) × (gcd_with 0 xs ≡ 1 → ⊥))

of_two : (xs : List ℤ) → Two xs → ((1 ≤ count_size 1 xs) × (gcd_with 2 xs ≡ 1)) ⊎ ((count_size 1 xs ≡ 0) × (gcd_with 2 xs ≡ 1 → ⊥))
of_two xs (inl h) = inl h
of_two xs (inr h) = inr (h.0, λ e. absurd (omega (arith, e, h.1)))

from_none : (xs : List ℤ) → Each IsSmall xs → Any xs
unfolding gcd_steps
from_none [] s = inr (refl, λ e. absurd (omega (arith, e)))
from_none (pos zero ∷ xs) s = from_none xs s.1
from_none (pos (suc zero) ∷ xs) s = inl (omega arith, one_stays xs s.1)
from_none (pos (suc (suc zero)) ∷ xs) s = of_two xs (from_two xs s.1)
from_none (pos (suc (suc (suc n))) ∷ xs) s = absurd (omega (arith, s.0))
from_none (negsuc zero ∷ xs) s = inl (omega arith, one_stays xs s.1)
from_none (negsuc (suc zero) ∷ xs) s = of_two xs (from_two xs s.1)
from_none (negsuc (suc (suc n)) ∷ xs) s = absurd (omega (arith, s.0))

pub coprime_iff : (xs : List ℤ) → Each IsSmall xs → (gcd_of xs ≡ 1) ↔ (1 ≤ count_size 1 xs)
coprime_iff xs s = by (from_none xs s)
  where
    by : Any xs → (gcd_of xs ≡ 1) ↔ (1 ≤ count_size 1 xs)
    by (inl h) = (λ _. h.0, λ _. h.1)
    by (inr h) = (λ e. absurd (h.1 e), λ l. absurd (omega (arith, l, h.0)))
