-- The lists of coefficients are exactly those of the template, in order.
use Rattle.std.proofs.Common.{◌≡◌, ℕ, zero, suc, ◌+◌, ◌≤◌, Bool, true, false, cond, eqb, leb, ◌&&◌, ◌||◌, ◌⊎◌, inl, inr, List, [], ◌∷◌, Option, Some, None, arith, refl, subst, length, leb-true, le-leb, eqb-true}
use borrow.Author.Tests.{eqb-false}
use Rattle.std.specs.Prelude.{ℤ, pos, negsuc, unsigned_abs}
use Rattle.std.proofs.lemmas.Int.{ints}
use Rattle.miners.specs.Template.{IsGreater, IsPositiveFirst, IsShape, IsBoundShape, count_ones, count_minus_ones}
use Rattle.miners.specs.Mined.{Sizes, sizes, are_few, if_few, if_any, with_coef, are_coprime, coef_values, shapes, Signs, signs, with_sign, is_any, sign_values, bound_shapes}
use Rattle.miners.proofs.Listings.{Each, IsOneOf, IsListed, Lists, each_of, all_of}
use Rattle.miners.proofs.Grown.{Above, Within, takes, grown_taken, taken_grown, listed_grown}
use Rattle.miners.proofs.Coprime.{count_size, IsSmall, coprime_iff}
use Rattle.miners.proofs.Sizes.{IsFew, by_sign, few_in_all, few_by_size}

and_true : (a b : Bool) → (a && b) ≡ true → (a ≡ true) × (b ≡ true)
and_true true b e = (refl, e)
and_true false b e = cc

or_true : (a b : Bool) → (a || b) ≡ true → (a ≡ true) ⊎ (b ≡ true)
or_true true b e = inl refl
or_true false b e = inr e

true_or : (a b : Bool) → b ≡ true → (a || b) ≡ true
true_or true b e = refl
true_or false b e = e

few_of : (o t : ℕ) → are_few (sizes o t) ≡ true → IsFew o t
few_of o t e = by (or_true (leb (o + t) 3) (eqb o 4 && eqb t 0) e)
  where
    by : (leb (o + t) 3 ≡ true) ⊎ ((eqb o 4 && eqb t 0) ≡ true) → IsFew o t
    by (inl h) = inl (leb-true _ _ h)
    by (inr h) = let p = and_true (eqb o 4) (eqb t 0) h in inr (eqb-true _ _ p.0, eqb-true _ _ p.1)

few_is : (o t : ℕ) → IsFew o t → are_few (sizes o t) ≡ true
few_is o t (inl h) = rw (le-leb (o + t) 3 h) refl
few_is o t (inr h) = rw (h.0, h.1) refl

less_few : (o t p q : ℕ) → IsFew (o + p) (t + q) → IsFew o t
less_few o t p q (inl h) = inl (omega arith)
less_few o t p q (inr h) = by (leb o 3) refl
  where
    by : (b : Bool) → leb o 3 ≡ b → IsFew o t
    by true e = inl (omega (arith, leb-true o 3 e, h.1))
    by false e = inr (omega (arith, h.0, four o e), omega (arith, h.1))
      where
        four : (o : ℕ) → leb o 3 ≡ false → 4 ≤ o
        four zero e = cc
        four (suc zero) e = cc
        four (suc (suc zero)) e = cc
        four (suc (suc (suc zero))) e = cc
        four (suc (suc (suc (suc n)))) e = omega arith

-- what is left to be taken after o entries of size 1 and t of size 2
record ShapeFrom (o t : ℕ) (xs : List ℤ) : Type 0 where
  small : Each IsSmall xs
  positive : (1 ≤ o + t) ⊎ IsPositiveFirst xs
  coprime : 1 ≤ o + count_size 1 xs
  few : IsFew (o + count_size 1 xs) (t + count_size 2 xs)

abbrev taken : Option Sizes → List ℤ → Bool
taken s xs = takes with_coef are_coprime s xs

seen_taken : (o t : ℕ) (xs : List ℤ) → taken (if_few (sizes o t)) xs ≡ true → IsFew o t × (taken (Some (sizes o t)) xs ≡ true)
seen_taken o t xs h = by (are_few (sizes o t)) refl h
  where
    by : (b : Bool) → are_few (sizes o t) ≡ b → taken (cond b (Some (sizes o t)) None) xs ≡ true → IsFew o t × (taken (Some (sizes o t)) xs ≡ true)
    by true e h = (few_of o t e, h)
    by false e h = cc

negative_taken : (o t p q : ℕ) (xs : List ℤ) → taken (if_any (sizes o t) (if_few (sizes p q))) xs ≡ true → (1 ≤ o + t) × (taken (if_few (sizes p q)) xs ≡ true)
negative_taken o t p q xs h = by (eqb (o + t) 0) refl h
  where
    by : (b : Bool) → eqb (o + t) 0 ≡ b → taken (cond b None (if_few (sizes p q))) xs ≡ true → (1 ≤ o + t) × (taken (if_few (sizes p q)) xs ≡ true)
    by true e h = cc
    by false e h = (omega (arith, eqb-false (o + t) 0 e), h)

shape_of : (xs : List ℤ) (o t : ℕ) → IsFew o t → taken (Some (sizes o t)) xs ≡ true → ShapeFrom o t xs
shape_of [] o t f h = record { small = tt; positive = inr tt; coprime = omega (arith, leb-true 1 o h); few = less_few_back o t f }
  where
    less_few_back : (o t : ℕ) → IsFew o t → IsFew (o + 0) (t + 0)
    less_few_back o t (inl h) = inl (omega arith)
    less_few_back o t (inr h) = inr (omega (arith, h.0), omega (arith, h.1))
shape_of (pos zero ∷ xs) o t f h =
    let r = shape_of xs o t f h in record { small = (omega arith, r.small); positive = r.positive; coprime = r.coprime; few = r.few }
shape_of (pos (suc zero) ∷ xs) o t f h =
    let s = seen_taken (suc o) t xs h in
    let r = shape_of xs (suc o) t s.0 s.1 in
    record { small = (omega arith, r.small); positive = inr tt; coprime = omega arith; few = subst (λ n. IsFew n (t + count_size 2 xs)) (omega arith) r.few }
shape_of (pos (suc (suc zero)) ∷ xs) o t f h =
    let s = seen_taken o (suc t) xs h in
    let r = shape_of xs o (suc t) s.0 s.1 in
    record { small = (omega arith, r.small); positive = inr tt; coprime = r.coprime; few = subst (λ n. IsFew (o + count_size 1 xs) n) (omega arith) r.few }
shape_of (pos (suc (suc (suc n))) ∷ xs) o t f h = cc
shape_of (negsuc zero ∷ xs) o t f h =
    let u = negative_taken o t (suc o) t xs h in
    let s = seen_taken (suc o) t xs u.1 in
    let r = shape_of xs (suc o) t s.0 s.1 in
    record { small = (omega arith, r.small); positive = inl u.0; coprime = omega arith; few = subst (λ n. IsFew n (t + count_size 2 xs)) (omega arith) r.few }
shape_of (negsuc (suc zero) ∷ xs) o t f h =
    let u = negative_taken o t o (suc t) xs h in
    let s = seen_taken o (suc t) xs u.1 in
    let r = shape_of xs o (suc t) s.0 s.1 in
    record { small = (omega arith, r.small); positive = inl u.0; coprime = r.coprime; few = subst (λ n. IsFew (o + count_size 1 xs) n) (omega arith) r.few }
shape_of (negsuc (suc (suc n)) ∷ xs) o t f h = cc

taken_seen : (o t : ℕ) (xs : List ℤ) → IsFew o t → taken (Some (sizes o t)) xs ≡ true → taken (if_few (sizes o t)) xs ≡ true
taken_seen o t xs f h = rw (few_is o t f) h

taken_negative : (o t p q : ℕ) (xs : List ℤ) → 1 ≤ o + t → taken (if_few (sizes p q)) xs ≡ true → taken (if_any (sizes o t) (if_few (sizes p q))) xs ≡ true
taken_negative o t p q xs l h = by (eqb (o + t) 0) refl
  where
    by : (b : Bool) → eqb (o + t) 0 ≡ b → taken (cond b None (if_few (sizes p q))) xs ≡ true
    by true e = absurd (omega (arith, eqb-true (o + t) 0 e, l))
    by false e = h

positive_left : (o t : ℕ) (n : ℕ) (xs : List ℤ) → (1 ≤ o + t) ⊎ IsPositiveFirst (negsuc n ∷ xs) → 1 ≤ o + t
positive_left o t n xs (inl h) = h
positive_left o t n xs (inr h) = absurd h

shape_taken : (xs : List ℤ) (o t : ℕ) → ShapeFrom o t xs → taken (Some (sizes o t)) xs ≡ true
shape_taken [] o t r = le-leb 1 o (omega (arith, r.coprime))
shape_taken (pos zero ∷ xs) o t r = shape_taken xs o t (record { small = r.small.1; positive = r.positive; coprime = r.coprime; few = r.few })
shape_taken (pos (suc zero) ∷ xs) o t r =
    let f : IsFew (suc o + count_size 1 xs) (t + count_size 2 xs) = subst (λ n. IsFew n (t + count_size 2 xs)) (omega arith) r.few in
    taken_seen (suc o) t xs (less_few (suc o) t (count_size 1 xs) (count_size 2 xs) f)
    (shape_taken xs (suc o) t (record { small = r.small.1; positive = inl (omega arith); coprime = omega arith; few = f }))
shape_taken (pos (suc (suc zero)) ∷ xs) o t r =
    let f : IsFew (o + count_size 1 xs) (suc t + count_size 2 xs) = subst (λ n. IsFew (o + count_size 1 xs) n) (omega arith) r.few in
    taken_seen o (suc t) xs (less_few o (suc t) (count_size 1 xs) (count_size 2 xs) f)
    (shape_taken xs o (suc t) (record { small = r.small.1; positive = inl (omega arith); coprime = r.coprime; few = f }))
shape_taken (pos (suc (suc (suc n))) ∷ xs) o t r = absurd (omega (arith, r.small.0))
shape_taken (negsuc zero ∷ xs) o t r =
    let f : IsFew (suc o + count_size 1 xs) (t + count_size 2 xs) = subst (λ n. IsFew n (t + count_size 2 xs)) (omega arith) r.few in
    taken_negative o t (suc o) t xs (positive_left o t 0 xs r.positive)
    (taken_seen (suc o) t xs (less_few (suc o) t (count_size 1 xs) (count_size 2 xs) f)
    (shape_taken xs (suc o) t (record { small = r.small.1; positive = inl (omega arith); coprime = omega arith; few = f })))
shape_taken (negsuc (suc zero) ∷ xs) o t r =
    let f : IsFew (o + count_size 1 xs) (suc t + count_size 2 xs) = subst (λ n. IsFew (o + count_size 1 xs) n) (omega arith) r.few in
    taken_negative o t o (suc t) xs (positive_left o t 1 xs r.positive)
    (taken_seen o (suc t) xs (less_few o (suc t) (count_size 1 xs) (count_size 2 xs) f)
    (shape_taken xs o (suc t) (record { small = r.small.1; positive = inl (omega arith); coprime = r.coprime; few = f })))
shape_taken (negsuc (suc (suc n)) ∷ xs) o t r = absurd (omega (arith, r.small.0))

shape_within : Within with_coef coef_values
shape_within s t (pos zero) h = inr (inr (inl refl))
shape_within s t (pos (suc zero)) h = inr (inl refl)
shape_within s t (pos (suc (suc zero))) h = inl refl
shape_within s t (pos (suc (suc (suc n)))) h = cc
shape_within s t (negsuc zero) h = inr (inr (inr (inl refl)))
shape_within s t (negsuc (suc zero)) h = inr (inr (inr (inr (inl refl))))
shape_within s t (negsuc (suc (suc n))) h = cc

values_fall : IsListed Above coef_values
values_fall = (
  (omega (arith, ints), (omega (arith, ints), (omega (arith, ints), (omega (arith, ints), tt)))),
  (
    (omega (arith, ints), (omega (arith, ints), (omega (arith, ints), tt))),
    ((omega (arith, ints), (omega (arith, ints), tt)), ((omega (arith, ints), tt), (tt, tt))),
  ),
)

first_of : (xs : List ℤ) → (1 ≤ 0 + 0) ⊎ IsPositiveFirst xs → IsPositiveFirst xs
first_of xs (inl h) = absurd (omega arith)
first_of xs (inr h) = h

few_zero : (o t : ℕ) → IsFew (0 + o) (0 + t) → IsFew o t
few_zero o t (inl h) = inl (omega arith)
few_zero o t (inr h) = inr (omega (arith, h.0), omega (arith, h.1))

zero_few : (o t : ℕ) → IsFew o t → IsFew (0 + o) (0 + t)
zero_few o t (inl h) = inl (omega arith)
zero_few o t (inr h) = inr (omega (arith, h.0), omega (arith, h.1))

-- The shapes of n entries, in order.
pub shapes_list : (n : ℕ) → Lists IsGreater (λ cs. (length cs ≡ n) × IsShape cs) (shapes n)
shapes_list n = record { exactly = λ cs. (made cs, are cs); in_order = listed_grown with_coef are_coprime coef_values values_fall n (Some (sizes 0 0)) }
  where
    made : (cs : List ℤ) → IsOneOf cs (shapes n) → (length cs ≡ n) × IsShape cs
    made cs h =
        let g = grown_taken with_coef are_coprime coef_values n (Some (sizes 0 0)) cs h in
        let r = shape_of cs 0 0 (inl (omega arith)) g.1 in (
          g.0,
          record {
            small = all_of IsSmall cs r.small;
            coprime = (coprime_iff cs r.small).1 (omega (arith, r.coprime));
            positive = first_of cs r.positive;
            few = few_in_all cs r.small (few_zero (count_size 1 cs) (count_size 2 cs) r.few);
          },
        )

    are : (cs : List ℤ) → (length cs ≡ n) × IsShape cs → IsOneOf cs (shapes n)
    are cs p =
        let small = each_of IsSmall cs p.1.small in
        let one = (coprime_iff cs small).0 p.1.coprime in
        let from : ShapeFrom 0 0 cs = record {
          small = small;
          positive = inr p.1.positive;
          coprime = omega (arith, one);
          few = zero_few (count_size 1 cs) (count_size 2 cs) (few_by_size cs small p.1.few);
        } in
        taken_grown with_coef are_coprime coef_values shape_within n (Some (sizes 0 0)) cs p.0 (shape_taken cs 0 0 from)

-- ---- bounds
abbrev flag : Bool → ℕ
flag true = 1
flag false = 0

record BoundFrom (p m : Bool) (xs : List ℤ) : Type 0 where
  small : Each (λ x. unsigned_abs x ≤ 1) xs
  plus : flag p + count_ones xs ≤ 1
  minus : flag m + count_minus_ones xs ≤ 1
  some : 1 ≤ (flag p + count_ones xs) + (flag m + count_minus_ones xs)

abbrev bounded : Option Signs → List ℤ → Bool
bounded s xs = takes with_sign is_any s xs

bound_nil : (p m : Bool) → (p || m) ≡ true → BoundFrom p m []
bound_nil true true e = record { small = tt; plus = omega arith; minus = omega arith; some = omega arith }
bound_nil true false e = record { small = tt; plus = omega arith; minus = omega arith; some = omega arith }
bound_nil false true e = record { small = tt; plus = omega arith; minus = omega arith; some = omega arith }
bound_nil false false e = cc

bound_of : (xs : List ℤ) (p m : Bool) → bounded (Some (signs p m)) xs ≡ true → BoundFrom p m xs
bound_of [] p m h = bound_nil p m h
bound_of (pos zero ∷ xs) p m h =
    let r = bound_of xs p m h in
    record { small = (omega arith, r.small); plus = omega (arith, r.plus); minus = omega (arith, r.minus); some = omega (arith, r.some) }
bound_of (pos (suc zero) ∷ xs) true m h = cc
bound_of (pos (suc zero) ∷ xs) false m h =
    let r = bound_of xs true m h in
    record { small = (omega arith, r.small); plus = omega (arith, r.plus); minus = omega (arith, r.minus); some = omega (arith, r.some) }
bound_of (pos (suc (suc n)) ∷ xs) p m h = cc
bound_of (negsuc zero ∷ xs) p true h = cc
bound_of (negsuc zero ∷ xs) p false h =
    let r = bound_of xs p true h in
    record { small = (omega arith, r.small); plus = omega (arith, r.plus); minus = omega (arith, r.minus); some = omega (arith, r.some) }
bound_of (negsuc (suc n) ∷ xs) p m h = cc

nil_bound : (p m : Bool) → BoundFrom p m [] → (p || m) ≡ true
nil_bound true m r = refl
nil_bound false true r = refl
nil_bound false false r = absurd (omega (arith, r.some))

bound_taken : (xs : List ℤ) (p m : Bool) → BoundFrom p m xs → bounded (Some (signs p m)) xs ≡ true
bound_taken [] p m r = nil_bound p m r
bound_taken (pos zero ∷ xs) p m r = bound_taken xs p m
    (record { small = r.small.1; plus = omega (arith, r.plus); minus = omega (arith, r.minus); some = omega (arith, r.some) })
bound_taken (pos (suc zero) ∷ xs) true m r = absurd (omega (arith, r.plus))
bound_taken (pos (suc zero) ∷ xs) false m r =
    bound_taken xs true m (record { small = r.small.1; plus = omega (arith, r.plus); minus = omega (arith, r.minus); some = omega (arith, r.some) })
bound_taken (pos (suc (suc n)) ∷ xs) p m r = absurd (omega (arith, r.small.0))
bound_taken (negsuc zero ∷ xs) p true r = absurd (omega (arith, r.minus))
bound_taken (negsuc zero ∷ xs) p false r =
    bound_taken xs p true (record { small = r.small.1; plus = omega (arith, r.plus); minus = omega (arith, r.minus); some = omega (arith, r.some) })
bound_taken (negsuc (suc n) ∷ xs) p m r = absurd (omega (arith, r.small.0))

bound_within : Within with_sign sign_values
bound_within s t (pos zero) h = inr (inl refl)
bound_within s t (pos (suc zero)) h = inl refl
bound_within s t (pos (suc (suc n))) h = cc
bound_within s t (negsuc zero) h = inr (inr (inl refl))
bound_within s t (negsuc (suc n)) h = cc

bounds_fall : IsListed Above sign_values
bounds_fall = ((omega (arith, ints), (omega (arith, ints), tt)), ((omega (arith, ints), tt), (tt, tt)))

-- The bounds' coefficients of n entries, in order.
pub bound_shapes_list : (n : ℕ) → Lists IsGreater (λ cs. (length cs ≡ n) × IsBoundShape cs) (bound_shapes n)
bound_shapes_list n = record {
  exactly = λ cs. (made cs, are cs);
  in_order = listed_grown with_sign is_any sign_values bounds_fall n (Some (signs false false));
}
  where
    made : (cs : List ℤ) → IsOneOf cs (bound_shapes n) → (length cs ≡ n) × IsBoundShape cs
    made cs h =
        let g = grown_taken with_sign is_any sign_values n (Some (signs false false)) cs h in
        let r = bound_of cs false false g.1 in
        let all = by_sign cs r.small in (
          g.0,
          record {
            small = all_of (λ coef. unsigned_abs coef ≤ 1) cs r.small;
            plus = omega (arith, r.plus);
            minus = omega (arith, r.minus);
            some = omega (arith, r.some, all);
          },
        )

    are : (cs : List ℤ) → (length cs ≡ n) × IsBoundShape cs → IsOneOf cs (bound_shapes n)
    are cs p =
        let small = each_of (λ coef. unsigned_abs coef ≤ 1) cs p.1.small in
        let all = by_sign cs small in
        let from : BoundFrom false false cs = record {
          small = small;
          plus = omega (arith, p.1.plus);
          minus = omega (arith, p.1.minus);
          some = omega (arith, p.1.some, all);
        } in
        taken_grown with_sign is_any sign_values bound_within n (Some (signs false false)) cs p.0 (bound_taken cs false false from)
