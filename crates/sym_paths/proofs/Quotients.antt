-- A quotient and what it leaves are pinned by the bounds that the rows of a division say.
use Rattle.std.proofs.Common.{◌≡◌, ℕ, zero, suc, ◌<◌, ◌≤◌, refl, ap, ◌∙◌, arith}
use Rattle.std.specs.Prelude.{ℤ, pos, negsuc, neg_ℤ, ◌+ℤ◌, ◌*ℤ◌, ◌≤ℤ◌, ◌<ℤ◌, int_div, int_rem, unsigned_abs}
use Rattle.std.proofs.lemmas.Int.{ints}
use lib.IntN.{*ℤ_comm}
use Rattle.c_ast.specs.Division.{IsDivided}
use Rattle.c_ast.proofs.Laws.{law_of_division}

small_product : (d : ℕ) (z : ℤ) → (pos d *ℤ z) <ℤ pos d → neg_ℤ (pos d) <ℤ (pos d *ℤ z) → z ≡ pos 0
small_product d (pos zero) high low = refl
small_product d (pos (suc n)) high low = absurd (omega (arith, ints))
small_product zero (negsuc n) high low = absurd (omega (arith, ints))
small_product (suc d) (negsuc n) high low = absurd (omega (arith, ints))

-- what is left of a dividend 0 is 0
none_left : (d : ℕ) (x r : ℤ) → r ≡ pos 0 +ℤ (negsuc 0 *ℤ (pos d *ℤ x)) → r <ℤ pos d → neg_ℤ (pos d) <ℤ r → r ≡ pos 0
none_left d x r is high low =
    let none = small_product d x (omega (arith, ints, is, high, low)) (omega (arith, ints, is, high, low)) in
    is ∙ ap (λ (z : ℤ). pos 0 +ℤ (negsuc 0 *ℤ (pos d *ℤ z))) none ∙ omega (arith, ints)

below_size : (r : ℤ) (d : ℕ) → r <ℤ pos d → neg_ℤ (pos d) <ℤ r → unsigned_abs r < d
below_size (pos n) d high low = omega (arith, ints)
below_size (negsuc n) d high low = omega (arith, ints)

small_bounds : (r : ℤ) (d : ℕ) → unsigned_abs r < d → (r <ℤ pos d) × (neg_ℤ (pos d) <ℤ r)
small_bounds (pos n) d small = (omega (arith, ints), omega (arith, ints))
small_bounds (negsuc n) d small = (omega (arith, ints), omega (arith, ints))

module _ (v x r : ℤ) (d : ℕ) (some : 1 ≤ d) (left : r ≡ v +ℤ (negsuc 0 *ℤ (pos d *ℤ x))) where
  whole : (x *ℤ pos d) +ℤ r ≡ v
  whole = let turned = *ℤ_comm x (pos d) in omega (arith, ints, turned, left)

  none_at_zero : v ≡ pos 0 → r <ℤ pos d → neg_ℤ (pos d) <ℤ r → r ≡ pos 0
  none_at_zero none high low =
      none_left d x r (left ∙ ap (λ (z : ℤ). z +ℤ (negsuc 0 *ℤ (pos d *ℤ x))) none) high low

  pub from_zero_is : pos 0 ≤ℤ v → pos 0 ≤ℤ r → (r +ℤ neg_ℤ (pos d)) <ℤ pos 0 → (x ≡ int_div v (pos d)) × (r ≡ int_rem v (pos d))
  from_zero_is sign low high = (law_of_division v d x r some).0 (record {
    whole = whole;
    small = below_size r d (omega (arith, ints, high)) (omega (arith, ints, low, some));
    not_negative = λ _. low;
    not_positive = λ at_most.
        let none = none_at_zero (omega (arith, ints, sign, at_most)) (omega (arith, ints, high)) (omega (arith, ints, low, some)) in
        omega (arith, ints, none);
  })

  pub below_zero_is : v <ℤ pos 0 → r ≤ℤ pos 0 → pos 0 <ℤ (r +ℤ pos d) → (x ≡ int_div v (pos d)) × (r ≡ int_rem v (pos d))
  below_zero_is sign high low = (law_of_division v d x r some).0 (record {
    whole = whole;
    small = below_size r d (omega (arith, ints, high, some)) (omega (arith, ints, low));
    not_negative = λ at_least. absurd (omega (arith, ints, sign, at_least));
    not_positive = λ _. high;
  })

module _ (v r : ℤ) (d : ℕ) (some : 1 ≤ d) (left : r ≡ v +ℤ (negsuc 0 *ℤ (pos d *ℤ int_div v (pos d)))) where
  divided : IsDivided v d (int_div v (pos d)) (int_rem v (pos d))
  divided = (law_of_division v d (int_div v (pos d)) (int_rem v (pos d)) some).1 (refl, refl)

  pub rest_is : r ≡ int_rem v (pos d)
  rest_is = let turned = *ℤ_comm (int_div v (pos d)) (pos d) in let is = divided.whole in omega (arith, ints, turned, is, left)

  pub from_zero_bounds : pos 0 ≤ℤ v → (pos 0 ≤ℤ r) × ((r +ℤ neg_ℤ (pos d)) <ℤ pos 0)
  from_zero_bounds sign =
      let is = rest_is in
      let low = divided.not_negative sign in
      let bounds = small_bounds (int_rem v (pos d)) d divided.small in
      (omega (arith, ints, is, low), omega (arith, ints, is, bounds.0))

  pub below_zero_bounds : v <ℤ pos 0 → (r ≤ℤ pos 0) × (pos 0 <ℤ (r +ℤ pos d))
  below_zero_bounds sign =
      let is = rest_is in
      let high = divided.not_positive (omega (arith, ints, sign)) in
      let bounds = small_bounds (int_rem v (pos d)) d divided.small in
      (omega (arith, ints, is, high), omega (arith, ints, is, bounds.1))

-- 1 divides without rest
pub by_one : (v : ℤ) → (v ≡ int_div v (pos 1)) × (pos 0 ≡ int_rem v (pos 1))
by_one v = (law_of_division v 1 v (pos 0) (omega arith)).0 (record {
  whole = omega (arith, ints);
  small = omega (arith, ints);
  not_negative = λ _. omega (arith, ints);
  not_positive = λ _. omega (arith, ints);
})
