-- Products and sums in 128 bits lose nothing.
use Rattle.std.proofs.Common.{◌≡◌, ◌+◌, ◌<◌, ◌≤◌, ◌^◌, arith, to_z, of_z}
use Rattle.std.specs.Int.{w128}
use Rattle.std.specs.Prelude.{ℤ, ◌+ℤ◌, ◌*ℤ◌, unsigned_abs}
use Rattle.std.proofs.lemmas.Int.{ints, to_z-of_z, unsigned_abs-mul, fits_signed_from_abs}
use Rattle.std.proofs.lemmas.Nat.{mul-lt}
use Rattle.lin_terms.specs.Bounds.{FitsRow}

pub unsigned_abs-product : (x y : ℤ) → FitsRow x → FitsRow y → unsigned_abs (x *ℤ y) < 2 ^ 112
unsigned_abs-product x y x_fits y_fits =
    rw (unsigned_abs-mul x y) (mul-lt (unsigned_abs x) (unsigned_abs y) (2 ^ 56) (2 ^ 56) x_fits y_fits)

pub unsigned_abs-sum : (x y : ℤ) → unsigned_abs (x +ℤ y) ≤ unsigned_abs x + unsigned_abs y
unsigned_abs-sum x y = omega (arith, ints)

-- a number that 128 bits hold, as the code reads it
back : (x : ℤ) → unsigned_abs x < 2 ^ 127 → to_z w128 (of_z w128 x) ≡ x
back x small = to_z-of_z w128 x (fits_signed_from_abs w128 x small)

-- the product of numbers that fit, as the code computes it
pub product_back : (x y z : ℤ) → FitsRow x → FitsRow y → z ≡ y
    → to_z w128 (of_z w128 (to_z w128 (of_z w128 x) *ℤ to_z w128 (of_z w128 z))) ≡ x *ℤ y
product_back x y z x_fits y_fits is =
    rw (is, back x (omega arith), back y (omega arith)) (back (x *ℤ y) (omega (arith, unsigned_abs-product x y x_fits y_fits)))

-- a sum with room for one more product, as the code computes it
pub sum_back : (x y : ℤ) → unsigned_abs x < 2 ^ 126 → unsigned_abs y < 2 ^ 112 → to_z w128 (of_z w128 (x +ℤ to_z w128 (of_z w128 y))) ≡ x +ℤ y
sum_back x y room small = rw (back y (omega arith)) (back (x +ℤ y) (omega (arith, unsigned_abs-sum x y)))

-- the same, where the sum stands in an array
pub entry_back : (x y : ℤ) → unsigned_abs x < 2 ^ 126 → unsigned_abs y < 2 ^ 112
    → to_z w128 (of_z w128 (to_z w128 (of_z w128 x) +ℤ to_z w128 (of_z w128 y))) ≡ x +ℤ y
entry_back x y room small = rw (back x (omega arith)) (sum_back x y room small)
