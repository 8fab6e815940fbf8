-- The signs of sums and products.
use Rattle.std.proofs.Common.{◌≡◌, ℕ, zero, suc, arith}
use Rattle.std.specs.Prelude.{ℤ, pos, negsuc, ◌+ℤ◌, ◌*ℤ◌, ◌≤ℤ◌}
use Rattle.std.proofs.lemmas.Int.{ints}

pub nonneg_add : (a b : ℤ) → pos 0 ≤ℤ a → pos 0 ≤ℤ b → pos 0 ≤ℤ (a +ℤ b)
nonneg_add a b in_a in_b = omega (arith, ints)

pub nonneg_mul : (a b : ℤ) → pos 0 ≤ℤ a → pos 0 ≤ℤ b → pos 0 ≤ℤ (a *ℤ b)
nonneg_mul (pos a) (pos b) in_a in_b = omega (arith, ints)
nonneg_mul (negsuc a) b in_a in_b = absurd in_a.le
nonneg_mul (pos a) (negsuc b) in_a in_b = absurd in_b.le

-- a positive factor of 0 leaves 0
pub zero_factor : (n : ℕ) (t : ℤ) → pos (suc n) *ℤ t ≡ pos 0 → t ≡ pos 0
zero_factor n (pos zero) e = omega (arith, ints)
zero_factor n (pos (suc k)) e = absurd (omega (arith, ints))
zero_factor n (negsuc k) e = absurd (omega (arith, ints))
