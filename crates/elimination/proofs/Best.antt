-- The element with the least quotient of two numbers, without division.
use Rattle.std.proofs.Common.{◌≡◌, zero, suc, List, [], ◌∷◌, arith, subst}
use Rattle.std.specs.Prelude.{ℤ, pos, negsuc, ◌+ℤ◌, ◌*ℤ◌, ◌-ℤ◌, ◌≤ℤ◌, ◌<ℤ◌}
use Rattle.std.specs.List.{AllByRecursion}
use Rattle.std.proofs.lemmas.Int.{ints, by_lt_z}
use Rattle.elimination.proofs.Ring.{as_dif, same_dif, difs}
use Rattle.lin_terms.proofs.Laws.{nonneg_add, nonneg_mul}

-- a positive factor is cancelled
nonneg_cancel : (q a : ℤ) → pos 0 <ℤ q → pos 0 ≤ℤ (q *ℤ a) → pos 0 ≤ℤ a
nonneg_cancel q (pos a) positive product = omega (arith, ints)
nonneg_cancel (pos zero) (negsuc a) positive product = absurd positive.lt
nonneg_cancel (pos (suc q)) (negsuc a) positive product = absurd (omega (arith, ints))
nonneg_cancel (negsuc q) (negsuc a) positive product = absurd positive.lt

-- s over w at m is at most s over w at x
abbrev pub IsLeast : {X : Type 0} → (X → ℤ) → (X → ℤ) → X → X → Type 0
IsLeast w s m x = pos 0 ≤ℤ ((s x *ℤ w m) -ℤ (w x *ℤ s m))

-- an element of which Q holds, with the least s over w
pub record Best {X : Type 0} (w s : X → ℤ) (Q : X → Type 0) (xs : List X) : Type 0 where
  pub element : X
  pub positive : pos 0 <ℤ w element
  pub holds : Q element
  pub least : AllByRecursion (IsLeast w s element) xs

transitive_step : (w q r s t u : ℤ) → (w *ℤ ((t *ℤ q) -ℤ (r *ℤ u))) +ℤ (r *ℤ ((u *ℤ w) -ℤ (q *ℤ s))) ≡ q *ℤ ((t *ℤ w) -ℤ (r *ℤ s))
transitive_step w q r s t u =
    rw (as_dif w, as_dif q, as_dif r, as_dif s, as_dif t, as_dif u) (simp difs (same_dif _ _ _ _ (omega arith)))

least_self : (a b : ℤ) → pos 0 ≤ℤ ((a *ℤ b) -ℤ (b *ℤ a))
least_self a b = omega (arith, ints)

least_other : (a b c d : ℤ) → (b *ℤ c) ≤ℤ (a *ℤ d) → pos 0 ≤ℤ ((a *ℤ d) -ℤ (b *ℤ c))
least_other a b c d below = omega (arith, ints)

swapped : (a b c d : ℤ) → (a *ℤ b) <ℤ (c *ℤ d) → (b *ℤ a) ≤ℤ (d *ℤ c)
swapped a b c d below = omega (arith, ints)

not_negative : (a : ℤ) → pos 0 <ℤ a → pos 0 ≤ℤ a
not_negative a positive = omega (arith, ints)

least_transitive : (w q r s t u : ℤ) → pos 0 <ℤ w → pos 0 <ℤ q → pos 0 <ℤ r
    → pos 0 ≤ℤ ((t *ℤ q) -ℤ (r *ℤ u)) → pos 0 ≤ℤ ((u *ℤ w) -ℤ (q *ℤ s)) → pos 0 ≤ℤ ((t *ℤ w) -ℤ (r *ℤ s))
least_transitive w q r s t u w_positive q_positive r_positive first second =
    let upper : ℤ = (t *ℤ q) -ℤ (r *ℤ u) in
    let lower : ℤ = (u *ℤ w) -ℤ (q *ℤ s) in
    nonneg_cancel q ((t *ℤ w) -ℤ (r *ℤ s)) q_positive
    (subst (λ z. pos 0 ≤ℤ z) (transitive_step w q r s t u)
    (nonneg_add (w *ℤ upper) (r *ℤ lower) (nonneg_mul w upper (not_negative w w_positive) first) (nonneg_mul r lower (not_negative r r_positive) second)))

module _ {X : Type 0} (w s : X → ℤ) (Q : X → Type 0) where
  abbrev pub Good : X → Type 0
  Good x = (pos 0 <ℤ w x) × Q x

  all_least : (m p : X) → pos 0 <ℤ w m → pos 0 <ℤ w p → pos 0 ≤ℤ ((s m *ℤ w p) -ℤ (w m *ℤ s p)) → (xs : List X)
      → AllByRecursion Good xs → AllByRecursion (IsLeast w s m) xs → AllByRecursion (IsLeast w s p) xs
  all_least m p m_positive p_positive below [] good least = tt
  all_least m p m_positive p_positive below (x ∷ xs) good least = (
    least_transitive (w p) (w m) (w x) (s p) (s x) (s m) p_positive m_positive good.0.0 least.0 below,
    all_least m p m_positive p_positive below xs good.1 least.1,
  )

  pub best : (x : X) (xs : List X) → AllByRecursion Good (x ∷ xs) → Best w s Q (x ∷ xs)
  best x [] good = record { element = x; positive = good.0.0; holds = good.0.1; least = (least_self (s x) (w x), tt) }
  best x (y ∷ ys) good =
      let later = best y ys good.1 in
      let m = later.element in
      by_lt_z (s m *ℤ w x) (w m *ℤ s x)
      (λ below. record {
        element = m;
        positive = later.positive;
        holds = later.holds;
        least = (least_other (s x) (w x) (s m) (w m) (swapped (s m) (w x) (w m) (s x) below), later.least);
      })
      (λ above. record {
        element = x;
        positive = good.0.0;
        holds = good.0.1;
        least = (least_self (s x) (w x), all_least m x later.positive good.0.0 (least_other (s m) (w m) (s x) (w x) above) (y ∷ ys) good.1 later.least);
      })
