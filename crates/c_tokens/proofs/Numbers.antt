-- Values of digits, and values that stop at a limit.
use Rattle.std.proofs.Common.{◌≡◌, ℕ, suc, ◌+◌, ◌*◌, ◌^◌, ◌<◌, ◌≤◌, List, [], ◌∷◌, length, drop, get_or, min, refl, ◌∙◌, arith, ⊎_elim}
use Rattle.std.proofs.Math.Seq.{drop-cons}
use Rattle.std.proofs.lemmas.Bool.{cases_lt}
use Rattle.c_tokens.specs.Bytes.{digit_value}
use Rattle.c_tokens.specs.Constants.{value_from}

-- a product with a base is no less
pub le-times : (base value : ℕ) → 0 < base → value ≤ value * base
le-times base value some = grind arith

pub product-small : (value base : ℕ) → value ≤ 2 ^ 63 → base < 256 → value * base ≤ 2 ^ 63 * 256
product-small value base small few = grind arith

-- more digits never make a value less
pub value_from-le : (base value : ℕ) (digits : List ℕ) → 0 < base → value ≤ value_from base value digits
value_from-le base value [] some = omega arith
value_from-le base value (digit ∷ digits) some =
    omega (arith, le-times base value some, value_from-le base (value * base + digit_value digit) digits some)

-- a value that stops at a limit stops there with more digits too
pub value_from-capped : (limit base value : ℕ) (digits : List ℕ) → 0 < base
    → min limit (value_from base (min limit value) digits) ≡ min limit (value_from base value digits)
value_from-capped limit base value digits some =
    ⊎_elim (λ (below : value < limit). let same : min limit value ≡ value = omega arith in rw same refl)
    (λ (above : limit ≤ value). let same : min limit value ≡ limit = omega arith in
    rw same (omega (arith, value_from-le base limit digits some, value_from-le base value digits some)))
    (cases_lt value limit)

-- one more digit
pub value_from-digit : (limit base value next : ℕ) (digits : List ℕ) (i all : ℕ) → 0 < base → i < length digits
    → next ≡ min (value * base + digit_value (get_or digits i 0)) limit
    → min limit (value_from base value (drop i digits)) ≡ all
    → min limit (value_from base next (drop (i + 1) digits)) ≡ all
value_from-digit limit base value next digits i all some lt is so_far =
    let more : i + 1 ≡ suc i = omega arith in
    let capped : next ≡ min limit (value * base + digit_value (get_or digits i 0)) = omega (arith, is) in
    rw (capped, more) (value_from-capped limit base (value * base + digit_value (get_or digits i 0)) (drop (suc i) digits) some
    ∙ (rw (drop-cons digits i 0 lt) at so_far))
