-- Rows over the greatest common divisor of all their numbers.
use Rattle.std.proofs.Common.{◌≡◌, ℕ, zero, suc, ◌-◌, max, List, [], ◌∷◌, map, arith, refl, sym, ◌∙◌, ap, subst, get_or}
use Prim.Native.Nat.{◌∣◌}
use Rattle.std.specs.Prelude.{ℤ, pos, ◌+ℤ◌, ◌*ℤ◌, unsigned_abs}
use Rattle.std.proofs.lemmas.Int.{ints}
use Rattle.std.proofs.lemmas.Nat.Gcd.{dvd_trans, dvd-zero}
use Rattle.lin_terms.specs.Vectors.{dot}
use Rattle.lin_terms.specs.Row.{Allows, Meets}
use Rattle.lin_terms.specs.Divisor.{gcd_of, floor_div}
use Rattle.elimination.proofs.Ring.{as_dif, same_dif, difs}
use Rattle.lin_terms.specs.Divisor.{DividesAll}
use Rattle.lin_terms.proofs.Laws.{gcd_of_divides, exact_quotient, dot-quotients}
use Rattle.elimination.specs.Combination.{Combination, entry}
use Rattle.elimination.specs.Joining.{numbers_of, divided, primitive}
use Rattle.elimination.proofs.Lists.{all_weaker, all_front, all_back}
use Rattle.elimination.proofs.Points.{value, allows_multiple}

-- ---- the divisor

at_least_one : (g : ℕ) (xs : List ℤ) → DividesAll g xs → DividesAll (max 1 g) xs
at_least_one zero xs divides =
    all_weaker (λ (x : ℤ). zero ∣ unsigned_abs x) (λ (x : ℤ). 1 ∣ unsigned_abs x) (λ x none. dvd_trans 1 (dvd-zero 1) none) xs divides
at_least_one (suc n) xs divides = let e : max 1 (suc n) ≡ suc n = omega arith in subst (λ g. DividesAll g xs) (sym e) divides

-- a positive number, written as one more than another, that divides all numbers of a row; the primitive row is the row over it
pub record IsDivisor (row : Combination) (n : ℕ) : Type 0 where
  pub is : primitive row ≡ divided (suc n) row
  pub constant : suc n ∣ unsigned_abs row.row.constant
  pub coefs : DividesAll (suc n) row.row.coefs
  pub multipliers : DividesAll (suc n) row.multipliers

pub divisor_of : (row : Combination) → (n : ℕ) × IsDivisor row n
divisor_of row =
    let g : ℕ = max 1 (gcd_of (numbers_of row)) in
    let e : g ≡ suc (g - 1) = omega arith in
    let divides = subst (λ m. DividesAll m (numbers_of row)) e (at_least_one (gcd_of (numbers_of row)) (numbers_of row) (gcd_of_divides (numbers_of row))) in (
      g - 1,
      record {
        is = ap (λ m. divided m row) e;
        constant = divides.0;
        coefs = all_front (λ (x : ℤ). suc (g - 1) ∣ unsigned_abs x) row.row.coefs row.multipliers divides.1;
        multipliers = all_back (λ (x : ℤ). suc (g - 1) ∣ unsigned_abs x) row.row.coefs row.multipliers divides.1;
      },
    )

-- ---- points

multiple_step : (g s c d : ℤ) → g *ℤ (s +ℤ (c *ℤ d)) ≡ (g *ℤ s) +ℤ ((g *ℤ c) *ℤ d)
multiple_step g s c d = rw (as_dif g, as_dif s, as_dif c, as_dif d) (simp difs (same_dif _ _ _ _ (omega arith)))

divided_back : (numbers : List ℤ) (d : ℤ) (row : Combination) (n : ℕ) → IsDivisor row n → Meets numbers d (divided (suc n) row).row → Meets numbers d row.row
divided_back numbers d row n divisor met =
    let g : ℤ = pos (suc n) in
    let quotients : List ℤ = map (λ x. floor_div x (suc n)) row.row.coefs in
    let c : ℤ = floor_div row.row.constant (suc n) in
    subst (Allows row.row.equality) (multiple_step g (dot quotients numbers) c d
    ∙ ap (λ t. t +ℤ ((g *ℤ c) *ℤ d)) (dot-quotients n row.row.coefs numbers divisor.coefs)
    ∙ ap (λ t. dot row.row.coefs numbers +ℤ (t *ℤ d)) (exact_quotient n row.row.constant divisor.constant))
    (allows_multiple row.row.equality g (value numbers d (divided (suc n) row)) (omega (arith, ints)) met)

-- a point of the primitive row meets the row
pub primitive_back : (numbers : List ℤ) (d : ℤ) (row : Combination) → Meets numbers d (primitive row).row → Meets numbers d row.row
primitive_back numbers d row met =
    let found = divisor_of row in
    divided_back numbers d row found.0 found.1 (subst (λ (r : Combination). Meets numbers d r.row) found.1.is met)

-- ---- entries that are 0

zero_quotient : (n : ℕ) (z : ℤ) → z ≡ pos 0 → floor_div z (suc n) ≡ pos 0
zero_quotient n z e = rw e (omega (arith, ints))

pub get_or-quotients : (n : ℕ) (xs : List ℤ) (i : ℕ) → get_or (map (λ x. floor_div x (suc n)) xs) i (pos 0) ≡ floor_div (get_or xs i (pos 0)) (suc n)
get_or-quotients n [] i = sym (zero_quotient n (pos 0) refl)
get_or-quotients n (x ∷ xs) zero = refl
get_or-quotients n (x ∷ xs) (suc i) = get_or-quotients n xs i

-- an entry that is 0 stays so
pub entry-primitive : (i : ℕ) (row : Combination) → entry i row ≡ pos 0 → entry i (primitive row) ≡ pos 0
entry-primitive i row zero_entry =
    let found = divisor_of row in
    ap (λ (r : Combination). entry i r) found.1.is ∙ get_or-quotients found.0 row.row.coefs i ∙ zero_quotient found.0 (entry i row) zero_entry
