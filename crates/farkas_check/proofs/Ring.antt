-- Polynomial equations over the integers. To prove one over the variables a, b, c:
--     rw (as_dif a, as_dif b, as_dif c) (simp difs (same_dif _ _ _ _ (omega arith)))
-- `as_dif` writes each variable as a difference of two naturals, `difs` computes with differences, and `omega` multiplies out.
use Rattle.std.proofs.Common.{◌≡◌, ℕ, ◌+◌, ◌*◌, arith, ap}
use Rattle.std.specs.Prelude.{ℤ, pos, neg_ℤ, ◌+ℤ◌, ◌*ℤ◌}
use borrow.Author.Differences.{up, down, same_in, sum_is_lem, product_is, neg_is}
use Rattle.std.proofs.lemmas.Int.{ints}

-- a difference of naturals, kept folded
pub dif : ℕ → ℕ → ℤ
dif p n = pos p +ℤ neg_ℤ (pos n)

dif_is : (p n : ℕ) → up (dif p n) + n ≡ down (dif p n) + p
unfolding dif
dif_is p n = omega (arith, ints)

pub as_dif : (a : ℤ) → a ≡ dif (up a) (down a)
as_dif a = same_in _ _ (omega (arith, dif_is (up a) (down a)))

pub same_dif : (p n q m : ℕ) → p + m ≡ q + n → dif p n ≡ dif q m
same_dif p n q m e = same_in _ _ (omega (arith, dif_is p n, dif_is q m))

pub dif_add : (p n q m : ℕ) → dif p n +ℤ dif q m ≡ dif (p + q) (n + m)
dif_add p n q m =
    same_in _ _ (omega (arith, dif_is p n, dif_is q m, dif_is (p + q) (n + m), sum_is_lem (dif p n) (dif q m)))

pub dif_neg : (p n : ℕ) → neg_ℤ (dif p n) ≡ dif n p
dif_neg p n = same_in _ _ (omega (arith, dif_is p n, dif_is n p, neg_is (dif p n)))

products : (u d p n v e q m : ℕ) → u + n ≡ d + p → v + m ≡ e + q → (u * v + d * e) + (p * m + n * q) ≡ (p * q + n * m) + (u * e + d * v)
products u d p n v e q m f g =
    omega (arith, ap (λ x. x * v) f, ap (λ x. x * e) f, ap (λ x. p * x) g, ap (λ x. n * x) g)

pub dif_mul : (p n q m : ℕ) → dif p n *ℤ dif q m ≡ dif (p * q + n * m) (p * m + n * q)
dif_mul p n q m =
    same_in _ _ (omega (arith, product_is (dif p n) (dif q m), dif_is (p * q + n * m) (p * m + n * q), products _ _ p n _ _ q m (dif_is p n) (dif_is q m)))

pub ruleset difs = (dif_add, dif_neg, dif_mul)
