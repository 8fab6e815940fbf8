-- Small coefficients by their sizes and signs.
use Rattle.std.proofs.Common.{◌≡◌, ℕ, zero, suc, ◌+◌, ◌≤◌, ◌⊎◌, inl, inr, List, [], ◌∷◌, arith, refl}
use Rattle.std.specs.Prelude.{ℤ, pos, negsuc, unsigned_abs, All}
use Rattle.miners.specs.Template.{count_nonzero, count_ones, count_minus_ones}
use Rattle.miners.proofs.Listings.{Each, each_of, all_of}
use Rattle.miners.proofs.Coprime.{count_size, IsSmall}

abbrev pub IsFew : ℕ → ℕ → Type 0
IsFew o t = (o + t ≤ 3) ⊎ ((o ≡ 4) × (t ≡ 0))

abbrev IsSign : ℤ → Type 0
IsSign x = unsigned_abs x ≤ 1

-- The nonzero ones are those of size 1 and of size 2.
pub by_size : (xs : List ℤ) → Each IsSmall xs → count_nonzero xs ≡ count_size 1 xs + count_size 2 xs
by_size [] s = refl
by_size (pos zero ∷ xs) s = by_size xs s.1
by_size (pos (suc zero) ∷ xs) s = let e = by_size xs s.1 in omega (arith, e)
by_size (pos (suc (suc zero)) ∷ xs) s = let e = by_size xs s.1 in omega (arith, e)
by_size (pos (suc (suc (suc n))) ∷ xs) s = absurd (omega (arith, s.0))
by_size (negsuc zero ∷ xs) s = let e = by_size xs s.1 in omega (arith, e)
by_size (negsuc (suc zero) ∷ xs) s = let e = by_size xs s.1 in omega (arith, e)
by_size (negsuc (suc (suc n)) ∷ xs) s = absurd (omega (arith, s.0))

-- They are the ones and the minus ones.
pub by_sign : (xs : List ℤ) → Each IsSign xs → count_nonzero xs ≡ count_ones xs + count_minus_ones xs
by_sign [] s = refl
by_sign (pos zero ∷ xs) s = by_sign xs s.1
by_sign (pos (suc zero) ∷ xs) s = let e = by_sign xs s.1 in omega (arith, e)
by_sign (pos (suc (suc n)) ∷ xs) s = absurd (omega (arith, s.0))
by_sign (negsuc zero ∷ xs) s = let e = by_sign xs s.1 in omega (arith, e)
by_sign (negsuc (suc n) ∷ xs) s = absurd (omega (arith, s.0))

no_two : (xs : List ℤ) → Each IsSmall xs → count_size 2 xs ≡ 0 → Each IsSign xs
no_two [] s e = tt
no_two (pos zero ∷ xs) s e = (omega arith, no_two xs s.1 e)
no_two (pos (suc zero) ∷ xs) s e = (omega arith, no_two xs s.1 e)
no_two (pos (suc (suc zero)) ∷ xs) s e = absurd (omega (arith, e))
no_two (pos (suc (suc (suc n))) ∷ xs) s e = absurd (omega (arith, s.0))
no_two (negsuc zero ∷ xs) s e = (omega arith, no_two xs s.1 e)
no_two (negsuc (suc zero) ∷ xs) s e = absurd (omega (arith, e))
no_two (negsuc (suc (suc n)) ∷ xs) s e = absurd (omega (arith, s.0))

two_less : (xs : List ℤ) → Each IsSign xs → count_size 2 xs ≡ 0
two_less [] s = refl
two_less (pos zero ∷ xs) s = two_less xs s.1
two_less (pos (suc zero) ∷ xs) s = two_less xs s.1
two_less (pos (suc (suc n)) ∷ xs) s = absurd (omega (arith, s.0))
two_less (negsuc zero ∷ xs) s = two_less xs s.1
two_less (negsuc (suc n) ∷ xs) s = absurd (omega (arith, s.0))

pub few_in_all : (xs : List ℤ) → Each IsSmall xs → IsFew (count_size 1 xs) (count_size 2 xs)
    → (count_nonzero xs ≤ 3) ⊎ ((count_nonzero xs ≡ 4) × All IsSign xs)
few_in_all xs s (inl h) = let e = by_size xs s in inl (omega (arith, e, h))
few_in_all xs s (inr h) = let e = by_size xs s in inr (omega (arith, e, h.0, h.1), all_of IsSign xs (no_two xs s h.1))

pub few_by_size : (xs : List ℤ) → Each IsSmall xs → (count_nonzero xs ≤ 3) ⊎ ((count_nonzero xs ≡ 4) × All IsSign xs)
    → IsFew (count_size 1 xs) (count_size 2 xs)
few_by_size xs s (inl h) = let e = by_size xs s in inl (omega (arith, e, h))
few_by_size xs s (inr h) =
    let e = by_size xs s in
    let none = two_less xs (each_of IsSign xs h.1) in
    inr (omega (arith, e, h.0, none), none)
