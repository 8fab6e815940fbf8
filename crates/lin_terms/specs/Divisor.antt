-- Greatest common divisors, by Euclid's algorithm, and quotients that are rounded down.
use Rattle.std.specs.Prelude.{ℕ, zero, suc, ◌%◌, ◌==◌, if◌then◌else◌, List, [], ◌∷◌, ℤ, pos, unsigned_abs, All}
use Rattle.std.specs.Int.{int_div_euclid}
use Rattle.std.specs.List.{AllByRecursion}
use Prim.Native.Nat.{◌∣◌}

-- Euclid's algorithm, in at most `steps` steps
unfoldable pub gcd_steps : ℕ → ℕ → ℕ → ℕ
gcd_steps zero a b = a
gcd_steps (suc steps) a b = if b == 0 then a else gcd_steps steps b (a % b)

-- the greatest common divisor; the remainders fall, so b steps are enough
abbrev pub gcd : ℕ → ℕ → ℕ
gcd a b = gcd_steps b a b

-- the greatest common divisor of a number and the entries' sizes
abbrev pub gcd_with : ℕ → List ℤ → ℕ
gcd_with g [] = g
gcd_with g (x ∷ xs) = gcd_with (gcd g (unsigned_abs x)) xs

-- the greatest common divisor of the entries' sizes: 0 where each entry is 0
abbrev pub gcd_of : List ℤ → ℕ
gcd_of xs = gcd_with 0 xs

-- The divisor divides the size of each entry.
abbrev pub DividesAll : ℕ → List ℤ → Type 0
DividesAll divisor xs = AllByRecursion (λ x. divisor ∣ unsigned_abs x) xs

-- It divides each entry, and each number that does so divides it.
pub record IsGcdOf (g : ℕ) (xs : List ℤ) : Type 0 where
  pub divides : All (λ x. g ∣ unsigned_abs x) xs
  pub greatest : (d : ℕ) → All (λ x. d ∣ unsigned_abs x) xs → d ∣ g

-- x over a positive divisor, rounded down
abbrev pub floor_div : ℤ → ℕ → ℤ
floor_div x divisor = int_div_euclid x (pos divisor)
