-- The values of `/` and `%` are the only ones that divide a value as the standard says.
use Rattle.std.proofs.Common.{◌≡◌, ℕ, zero, suc, ◌+◌, ◌*◌, ◌/◌, ◌%◌, ◌<◌, ◌≤◌, arith, ap, sym, ◌∙◌}
use Rattle.std.specs.Prelude.{ℤ, pos, negsuc, neg_ℤ, ◌≤ℤ◌, int_div, int_rem}
use Rattle.std.proofs.lemmas.Int.{ints, quot-rem, rem_below}
use Rattle.std.proofs.lemmas.Nat.{div-mul-add, mod-mul-add}
use Rattle.c_ast.specs.Division.{IsDivided, LawOfDivision}

-- A number that is so many times the divisor, and less than the divisor more, has this quotient and this remainder.
parts : (m d k n : ℕ) → k < d → m * d + k ≡ n → (m ≡ n / d) × (k ≡ n % d)
parts m d k n small is = (
  sym (div-mul-add m d k small) ∙ ap (λ (x : ℕ). x / d) is,
  sym (mod-mul-add m d k small) ∙ ap (λ (x : ℕ). x % d) is,
)

divided : (value : ℤ) (d : ℕ) (quotient remainder : ℤ) → 1 ≤ d → IsDivided value d quotient remainder
    → (quotient ≡ int_div value (pos d)) × (remainder ≡ int_rem value (pos d))
divided (pos n) d (pos m) (pos k) some is =
    let p = parts m d k n is.small (omega (arith, ints, is.whole)) in (ap pos p.0, ap pos p.1)
divided (pos n) d (negsuc m) (pos k) some is = absurd (omega (arith, ints, is.whole, is.small))
divided (pos n) d quotient (negsuc k) some is = let at_least = is.not_negative (omega (arith, ints)) in absurd (omega (arith, ints))
divided (negsuc n) d quotient (pos (suc k)) some is = let at_most = is.not_positive (omega (arith, ints)) in absurd (omega (arith, ints))
divided (negsuc n) d (pos m) (pos zero) some is = absurd (omega (arith, ints, is.whole))
divided (negsuc n) d (pos zero) (negsuc k) some is =
    let p = parts 0 d (suc k) (suc n) is.small (omega (arith, ints, is.whole)) in
    (ap (λ (x : ℕ). neg_ℤ (pos x)) p.0, ap (λ (x : ℕ). neg_ℤ (pos x)) p.1)
divided (negsuc n) d (pos (suc m)) (negsuc k) some is = absurd (omega (arith, ints, is.whole, is.small))
divided (negsuc n) d (negsuc m) (pos zero) some is =
    let p = parts (suc m) d 0 (suc n) (omega arith) (omega (arith, ints, is.whole)) in
    (ap (λ (x : ℕ). neg_ℤ (pos x)) p.0, ap (λ (x : ℕ). neg_ℤ (pos x)) p.1)
divided (negsuc n) d (negsuc m) (negsuc k) some is =
    let p = parts (suc m) d (suc k) (suc n) is.small (omega (arith, ints, is.whole)) in
    (ap (λ (x : ℕ). neg_ℤ (pos x)) p.0, ap (λ (x : ℕ). neg_ℤ (pos x)) p.1)

remainder_at_least : (value : ℤ) (d : ℕ) → pos 0 ≤ℤ value → pos 0 ≤ℤ int_rem value (pos d)
remainder_at_least (pos n) d at_least = omega (arith, ints)
remainder_at_least (negsuc n) d at_least = absurd (omega (arith, ints))

remainder_at_most : (value : ℤ) (d : ℕ) → value ≤ℤ pos 0 → int_rem value (pos d) ≤ℤ pos 0
remainder_at_most (pos zero) d at_most = let none = parts 0 d 0 0 in zero_rem d
  where
    zero_rem : (d : ℕ) → pos (0 % d) ≤ℤ pos 0
    zero_rem zero = omega (arith, ints)
    zero_rem (suc d) = let p = parts 0 (suc d) 0 0 (omega arith) (omega arith) in omega (arith, ints, p.1)
remainder_at_most (pos (suc n)) d at_most = absurd (omega (arith, ints))
remainder_at_most (negsuc n) d at_most = omega (arith, ints)

pub law_of_division : LawOfDivision
law_of_division value d quotient remainder some = (
  λ is. divided value d quotient remainder some is,
  λ (quotient_is, remainder_is). rw (quotient_is, remainder_is) (record {
    whole = quot-rem value (pos d);
    small = rem_below value (pos d) (omega arith);
    not_negative = remainder_at_least value d;
    not_positive = remainder_at_most value d;
  }),
)
