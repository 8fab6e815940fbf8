-- Greatest common divisors, and entries over a number that divides them.
use Rattle.std.proofs.Common.{◌≡◌, ℕ, zero, suc, ◌*◌, ◌-◌, ◌<◌, ◌≤◌, ◌%◌, ◌/◌, Bool, true, false, cond, eqb, List, [], ◌∷◌, ◌++◌, map, arith, refl, sym, ◌∙◌, ap, subst}
use Prim.Native.Nat.{◌∣◌}
use Rattle.std.specs.Prelude.{ℤ, pos, negsuc, neg_ℤ, ◌+ℤ◌, ◌*ℤ◌, ◌-ℤ◌, int_div, unsigned_abs, All}
use Rattle.std.specs.Int.{IsGcd}
use Rattle.std.specs.List.{AllByRecursion}
use Rattle.std.proofs.lemmas.Int.{ints}
use Rattle.std.proofs.lemmas.Nat.{mod_below}
use Rattle.std.proofs.Math.Nat.{dvd-mul_right}
use Rattle.std.proofs.lemmas.Nat.Gcd.{dvd_refl, dvd-zero, dvd_trans, dvd_antisymm, le_of_dvd, mod-eq-zero_of_dvd, IsGcd-from_zero, IsGcd-from_mod, same_from_IsGcd}
use Rattle.std.proofs.lemmas.Bool.Decides.{nat_tests}
use Rattle.std.proofs.lemmas.List.Elements.{All-from_recursion, recursion_from_All}
use Rattle.lin_terms.specs.Divisor.{gcd_steps, gcd, gcd_with, gcd_of, IsGcdOf, DividesAll, floor_div}
use Rattle.lin_terms.specs.Vectors.{dot, scaled}
use Rattle.lin_terms.proofs.Ring.{mul-minus}
use Rattle.lin_terms.proofs.Dots.{dot-scaled}

-- ---- Euclid's algorithm

gcd_case : (n a b : ℕ) (t : Bool) → eqb b 0 ≡ t → (b ≡ 0 → IsGcd a b a) → (0 < b → IsGcd a b (gcd_steps n b (a % b)))
    → IsGcd a b (cond t a (gcd_steps n b (a % b)))
gcd_case n a b true e f g = f (grind (arith, nat_tests))
gcd_case n a b false e f g = g (grind (arith, nat_tests))

gcd_steps_is : (n a b : ℕ) → b ≤ n → IsGcd a b (gcd_steps n a b)
unfolding gcd_steps
gcd_steps_is zero a b h = IsGcd-from_zero a b (omega arith)
gcd_steps_is (suc n) a b h =
    gcd_case n a b (eqb b 0) refl (λ e. IsGcd-from_zero a b e)
    (λ p. IsGcd-from_mod a b (gcd_steps n b (a % b)) (gcd_steps_is n b (a % b) (omega (arith, mod_below a b p))))

pub gcd_is : (a b : ℕ) → IsGcd a b (gcd a b)
gcd_is a b = gcd_steps_is b a b (omega arith)

one_divides : (n : ℕ) → 1 ∣ n
one_divides n = let e : 1 * n ≡ n = omega arith in subst (λ m. 1 ∣ m) e (dvd-mul_right 1 n)

pub one_is : (n : ℕ) → IsGcd 1 n 1
one_is n = (dvd_refl 1, one_divides n, λ d in_one in_n. in_one)

pub gcd_one : (n : ℕ) → gcd 1 n ≡ 1
gcd_one n = same_from_IsGcd 1 n (gcd 1 n) 1 (gcd_is 1 n) (one_is n)

-- it is below what both numbers are below
pub gcd_below : (n a b : ℕ) → a < n → b < n → gcd a b < n
unfolding gcd_steps
gcd_below n a zero a_below b_below = a_below
gcd_below n a (suc b) a_below b_below =
    let some : 0 < suc b = omega arith in
    let bound : gcd a (suc b) ≤ suc b = le_of_dvd some (gcd_is a (suc b)).1 in omega arith

-- ---- the divisor of a list

gcd_with_divides : (g : ℕ) (xs : List ℤ) → (gcd_with g xs ∣ g) × DividesAll (gcd_with g xs) xs
gcd_with_divides g [] = (dvd_refl g, tt)
gcd_with_divides g (x ∷ xs) =
    let both = gcd_is g (unsigned_abs x) in
    let later = gcd_with_divides (gcd g (unsigned_abs x)) xs in
    let all : ℕ = gcd_with (gcd g (unsigned_abs x)) xs in
    (dvd_trans all later.0 both.0, (dvd_trans all later.0 both.1, later.1))

gcd_with_greatest : (d g : ℕ) (xs : List ℤ) → d ∣ g → DividesAll d xs → d ∣ gcd_with g xs
gcd_with_greatest d g [] divides all = divides
gcd_with_greatest d g (x ∷ xs) divides all =
    gcd_with_greatest d (gcd g (unsigned_abs x)) xs ((gcd_is g (unsigned_abs x)).2 d divides all.0) all.1

pub gcd_of_divides : (xs : List ℤ) → DividesAll (gcd_of xs) xs
gcd_of_divides xs = (gcd_with_divides 0 xs).1

pub gcd_of_is : (xs : List ℤ) → IsGcdOf (gcd_of xs) xs
gcd_of_is xs = record {
  divides = All-from_recursion (λ (x : ℤ). gcd_of xs ∣ unsigned_abs x) xs (gcd_of_divides xs);
  greatest = λ d all. gcd_with_greatest d 0 xs (dvd-zero d) (recursion_from_All (λ (x : ℤ). d ∣ unsigned_abs x) xs all);
}

gcd_with_below : (n g : ℕ) (xs : List ℤ) → g < n → AllByRecursion (λ x. unsigned_abs x < n) xs → gcd_with g xs < n
gcd_with_below n g [] g_below below = g_below
gcd_with_below n g (x ∷ xs) g_below below = gcd_with_below n (gcd g (unsigned_abs x)) xs (gcd_below n g (unsigned_abs x) g_below below.0) below.1

pub gcd_of_below : (n : ℕ) (xs : List ℤ) → 0 < n → All (λ x. unsigned_abs x < n) xs → gcd_of xs < n
gcd_of_below n xs positive below = gcd_with_below n 0 xs positive (recursion_from_All (λ (x : ℤ). unsigned_abs x < n) xs below)

pub gcd_with-append : (g : ℕ) (xs ys : List ℤ) → gcd_with g (xs ++ ys) ≡ gcd_with (gcd_with g xs) ys
gcd_with-append g [] ys = refl
gcd_with-append g (x ∷ xs) ys = gcd_with-append (gcd g (unsigned_abs x)) xs ys

-- lists with the same divisors have the same greatest one
pub same_gcd : (xs ys : List ℤ) → ((d : ℕ) → DividesAll d xs → DividesAll d ys) → ((d : ℕ) → DividesAll d ys → DividesAll d xs) → gcd_of xs ≡ gcd_of ys
same_gcd xs ys there back =
    dvd_antisymm (gcd_with_greatest (gcd_of xs) 0 ys (dvd-zero (gcd_of xs)) (there (gcd_of xs) (gcd_of_divides xs)))
    (gcd_with_greatest (gcd_of ys) 0 xs (dvd-zero (gcd_of ys)) (back (gcd_of ys) (gcd_of_divides ys)))

-- ---- quotients

-- the number is the divisor times the quotient, and a remainder below the divisor
pub floor_div_is : (n : ℕ) (x : ℤ) → (r : ℕ) × (r < suc n) × (x ≡ (pos (suc n) *ℤ floor_div x (suc n)) +ℤ pos r)
floor_div_is n (pos a) = (a % suc n, mod_below a (suc n) (omega arith), omega (arith, ints))
floor_div_is n (negsuc a) =
    let below : a % suc n < suc n = mod_below a (suc n) (omega arith) in
    (n - a % suc n, omega arith, omega (arith, ints))

mul_neg : (g m : ℕ) → pos g *ℤ neg_ℤ (pos m) ≡ neg_ℤ (pos (g * m))
mul_neg g zero = omega (arith, ints)
mul_neg g (suc m) = omega (arith, ints)

-- a number that is divided is a multiple
multiple_of_divisor : (g : ℕ) (x : ℤ) → g ∣ unsigned_abs x → pos g *ℤ int_div x (pos g) ≡ x
multiple_of_divisor g (pos n) h = let exact : n % g ≡ 0 = mod-eq-zero_of_dvd g h in omega (arith, ints)
multiple_of_divisor g (negsuc n) h =
    let exact : suc n % g ≡ 0 = mod-eq-zero_of_dvd g h in
    let e : g * (suc n / g) ≡ suc n = omega arith in
    mul_neg g (suc n / g) ∙ ap (λ m. neg_ℤ (pos m)) e

-- a multiple of the divisor that is a remainder is 0
no_remainder : (n r : ℕ) (t : ℤ) → r < suc n → pos (suc n) *ℤ t ≡ pos r → r ≡ 0
no_remainder n r (pos zero) below e = omega (arith, ints)
no_remainder n r (pos (suc k)) below e = absurd (omega (arith, ints))
no_remainder n r (negsuc k) below e = absurd (omega (arith, ints))

difference_step : (g p q r : ℤ) → g *ℤ p ≡ (g *ℤ q) +ℤ r → g *ℤ (p -ℤ q) ≡ r
difference_step g p q r e =
    let factored = mul-minus g p q in omega (arith, ints)

-- the quotient by a number that divides is exact
pub exact_quotient : (n : ℕ) (x : ℤ) → suc n ∣ unsigned_abs x → pos (suc n) *ℤ floor_div x (suc n) ≡ x
exact_quotient n x h =
    let found = floor_div_is n x in
    let g : ℤ = pos (suc n) in
    let exact = multiple_of_divisor (suc n) x h in
    let r_zero : found.0 ≡ 0 = no_remainder n found.0 (int_div x g -ℤ floor_div x (suc n)) found.1
    (difference_step g (int_div x g) (floor_div x (suc n)) (pos found.0) (exact ∙ found.2)) in
    let e : x ≡ (g *ℤ floor_div x (suc n)) +ℤ pos 0 = subst (λ r. x ≡ (g *ℤ floor_div x (suc n)) +ℤ pos r) r_zero found.2 in
    omega (arith, ints)

scaled-quotients : (n : ℕ) (xs : List ℤ) → DividesAll (suc n) xs → scaled (pos (suc n)) (map (λ x. floor_div x (suc n)) xs) ≡ xs
scaled-quotients n [] h = refl
scaled-quotients n (x ∷ xs) h = rw (exact_quotient n x h.0, scaled-quotients n xs h.1)

pub dot-quotients : (n : ℕ) (xs values : List ℤ) → DividesAll (suc n) xs
    → pos (suc n) *ℤ dot (map (λ x. floor_div x (suc n)) xs) values ≡ dot xs values
dot-quotients n xs values h =
    sym (dot-scaled (pos (suc n)) (map (λ x. floor_div x (suc n)) xs) values) ∙ ap (λ t. dot t values) (scaled-quotients n xs h)
