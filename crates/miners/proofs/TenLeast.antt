-- The constants of bounds: the ten least rise, and are below 2^50.
use Rattle.std.proofs.Common.{◌≡◌, ℕ, zero, suc, ◌≤◌, Bool, true, false, cond, ◌&&◌, ◌⊎◌, inl, inr, List, [], ◌∷◌, ◌++◌, length, take, filter, arith, refl, sym, ap, subst, ltb-true}
use Rattle.std.specs.Prelude.{ℤ, pos, negsuc, ◌<ℤ◌, ◌≤ℤ◌, int_lt, All, Contains}
use Rattle.std.proofs.lemmas.Int.{ints}
use Rattle.lin_terms.specs.Bounds.{fits_form, FitsForm}
use Rattle.miners.specs.Constants.{constants_in, with_constant, rising, is_further, ten_least, bound_constants}
use Rattle.miners.specs.Laws.{LawOfBoundConstants, LawOfTenLeast}
use Rattle.miners.proofs.Listings.{Each, IsOneOf, IsListed, contains, one_of, all_of, pairs_of, each_from, each_one, filter_one, one_filter}

-- ---- a constant put in its place

abbrev Less : ℤ → ℤ → Type 0
Less x y = x <ℤ y

not_less : (x y : ℤ) → int_lt x y ≡ false → int_lt y x ≡ false → x ≡ y
not_less x y e f = omega (arith, ints, e, f)

of_with : (z : ℤ) (ys : List ℤ) (a : ℤ) → IsOneOf a (with_constant z ys) → (a ≡ z) ⊎ IsOneOf a ys
of_with z [] a (inl h) = inl h
of_with z [] a (inr h) = absurd h
of_with z (y ∷ ys) a h = by (int_lt z y) (int_lt y z) h (of_with z ys a)
  where
    later : (a ≡ z) ⊎ IsOneOf a ys → (a ≡ z) ⊎ IsOneOf a (y ∷ ys)
    later (inl is) = inl is
    later (inr one) = inr (inr one)

    by : (l m : Bool) → IsOneOf a (cond l (z ∷ y ∷ ys) (cond m (y ∷ with_constant z ys) (y ∷ ys)))
        → (IsOneOf a (with_constant z ys) → (a ≡ z) ⊎ IsOneOf a ys) → (a ≡ z) ⊎ IsOneOf a (y ∷ ys)
    by true m (inl is) others = inl is
    by true m (inr one) others = inr one
    by false true (inl is) others = inr (inl is)
    by false true (inr one) others = later (others one)
    by false false one others = inr one

it_with : (z : ℤ) (ys : List ℤ) → IsOneOf z (with_constant z ys)
it_with z [] = inl refl
it_with z (y ∷ ys) = by (int_lt z y) (int_lt y z) refl refl (it_with z ys)
  where
    by : (l m : Bool) → int_lt z y ≡ l → int_lt y z ≡ m → IsOneOf z (with_constant z ys)
        → IsOneOf z (cond l (z ∷ y ∷ ys) (cond m (y ∷ with_constant z ys) (y ∷ ys)))
    by true m e f one = inl refl
    by false true e f one = inr one
    by false false e f one = inl (not_less z y e f)

in_with : (z : ℤ) (ys : List ℤ) (a : ℤ) → IsOneOf a ys → IsOneOf a (with_constant z ys)
in_with z [] a h = absurd h
in_with z (y ∷ ys) a h = by (int_lt z y) (int_lt y z) h (in_with z ys a)
  where
    by : (l m : Bool) → IsOneOf a (y ∷ ys) → (IsOneOf a ys → IsOneOf a (with_constant z ys))
        → IsOneOf a (cond l (z ∷ y ∷ ys) (cond m (y ∷ with_constant z ys) (y ∷ ys)))
    by true m one others = inr one
    by false true (inl is) others = inl is
    by false true (inr one) others = inr (others one)
    by false false one others = one

above : (z y : ℤ) (ys : List ℤ) → z <ℤ y → Each (Less y) ys → Each (Less z) ys
above z y [] less h = tt
above z y (x ∷ ys) less h = (omega (arith, ints, less, h.0), above z y ys less h.1)

listed_with : (z : ℤ) (ys : List ℤ) → IsListed Less ys → IsListed Less (with_constant z ys)
listed_with z [] h = (tt, tt)
listed_with z (y ∷ ys) h = by (int_lt z y) (int_lt y z) refl refl (listed_with z ys h.1)
  where
    less_than : (a : ℤ) → int_lt y z ≡ true → (a ≡ z) ⊎ IsOneOf a ys → y <ℤ a
    less_than a e (inl is) = subst (λ t. y <ℤ t) (sym is) (omega (arith, ints, e))
    less_than a e (inr one) = each_one (Less y) ys a one h.0

    by : (l m : Bool) → int_lt z y ≡ l → int_lt y z ≡ m → IsListed Less (with_constant z ys)
        → IsListed Less (cond l (z ∷ y ∷ ys) (cond m (y ∷ with_constant z ys) (y ∷ ys)))
    by true m e f others =
        let less : z <ℤ y = omega (arith, ints, e) in
        ((less, above z y ys less h.0), h)
    by false true e f others = (each_from (Less y) (with_constant z ys) (λ a one. less_than a f (of_with z ys a one)), others)
    by false false e f others = h

-- ---- all of them

pub of_rising : (zs : List ℤ) (a : ℤ) → IsOneOf a (rising zs) → IsOneOf a zs
of_rising [] a h = h
of_rising (z ∷ zs) a h = by (of_with z (rising zs) a h) (of_rising zs a)
  where
    by : (a ≡ z) ⊎ IsOneOf a (rising zs) → (IsOneOf a (rising zs) → IsOneOf a zs) → IsOneOf a (z ∷ zs)
    by (inl is) others = inl is
    by (inr one) others = inr (others one)

in_rising : (zs : List ℤ) (a : ℤ) → IsOneOf a zs → IsOneOf a (rising zs)
in_rising [] a h = h
in_rising (z ∷ zs) a (inl is) = subst (λ t. IsOneOf t (with_constant z (rising zs))) (sym is) (it_with z (rising zs))
in_rising (z ∷ zs) a (inr one) = in_with z (rising zs) a (in_rising zs a one)

listed_rising : (zs : List ℤ) → IsListed Less (rising zs)
listed_rising [] = tt
listed_rising (z ∷ zs) = listed_with z (rising zs) (listed_rising zs)

-- ---- the first of them

of_take : (n : ℕ) (xs : List ℤ) (a : ℤ) → IsOneOf a (take n xs) → IsOneOf a xs
of_take zero xs a h = absurd h
of_take (suc n) [] a h = h
of_take (suc n) (x ∷ xs) a (inl is) = inl is
of_take (suc n) (x ∷ xs) a (inr one) = inr (of_take n xs a one)

each_take : (P : ℤ → Type 0) (n : ℕ) (xs : List ℤ) → Each P xs → Each P (take n xs)
each_take P zero xs h = tt
each_take P (suc n) [] h = tt
each_take P (suc n) (x ∷ xs) h = (h.0, each_take P n xs h.1)

listed_take : (n : ℕ) (xs : List ℤ) → IsListed Less xs → IsListed Less (take n xs)
listed_take zero xs h = tt
listed_take (suc n) [] h = tt
listed_take (suc n) (x ∷ xs) h = (each_take (Less x) n xs h.0, listed_take n xs h.1)

short_take : (n : ℕ) (xs : List ℤ) → length (take n xs) ≤ n
short_take zero xs = omega arith
short_take (suc n) [] = omega arith
short_take (suc n) (x ∷ xs) = let others = short_take n xs in omega (arith, others)

in_take : (n : ℕ) (xs : List ℤ) (a : ℤ) → IsListed Less xs → IsOneOf a xs
    → IsOneOf a (take n xs) ⊎ ((length (take n xs) ≡ n) × Each (λ x. x <ℤ a) (take n xs))
in_take zero xs a h one = inr (refl, tt)
in_take (suc n) [] a h one = absurd one
in_take (suc n) (x ∷ xs) a h (inl is) = inl (inl is)
in_take (suc n) (x ∷ xs) a h (inr one) = by (in_take n xs a h.1 one)
  where
    by : IsOneOf a (take n xs) ⊎ ((length (take n xs) ≡ n) × Each (λ x. x <ℤ a) (take n xs))
        → IsOneOf a (x ∷ take n xs) ⊎ ((suc (length (take n xs)) ≡ suc n) × Each (λ x. x <ℤ a) (x ∷ take n xs))
    by (inl there) = inl (inr there)
    by (inr full) = inr (ap suc full.0, (each_one (Less x) xs a one h.0, full.1))

-- ---- the ten least

least_is : (zs : List ℤ) (a : ℤ) → IsOneOf a (ten_least zs) → IsOneOf a zs × (is_further a ≡ true)
least_is zs a h = filter_one is_further a zs (of_rising (filter is_further zs) a (of_take 10 (rising (filter is_further zs)) a h))

pub law_of_ten_least : LawOfTenLeast
law_of_ten_least zs = record {
  are = all_of (λ a. Contains zs a × (is_further a ≡ true)) (ten_least zs)
      (each_from (λ a. Contains zs a × (is_further a ≡ true)) (ten_least zs) (λ a one. let r = least_is zs a one in (contains zs a r.0, r.1)));
  all = λ a has further. by a (in_take 10 (rising (filter is_further zs)) a (listed_rising (filter is_further zs))
      (in_rising (filter is_further zs) a (one_filter is_further a zs (one_of zs a has) further)));
}
  where
    by : (a : ℤ) → IsOneOf a (ten_least zs) ⊎ ((length (ten_least zs) ≡ 10) × Each (λ x. x <ℤ a) (ten_least zs))
        → Contains (ten_least zs) a ⊎ ((length (ten_least zs) ≡ 10) × All (λ x. x <ℤ a) (ten_least zs))
    by a (inl one) = inl (contains (ten_least zs) a one)
    by a (inr full) = inr (full.0, all_of (λ x. x <ℤ a) (ten_least zs) full.1)

-- ---- with -1, 0 and 1

both : (a b : Bool) → (a && b) ≡ true → (a ≡ true) × (b ≡ true)
both true b e = (refl, e)
both false b e = cc

further_above : (z : ℤ) → is_further z ≡ true → pos 1 <ℤ z
further_above z e = let l = (both (int_lt (pos 1) z) (fits_form z) e).0 in omega (arith, ints, l)

further_fits : (z : ℤ) → is_further z ≡ true → FitsForm z
further_fits z e = ltb-true _ _ (both (int_lt (pos 1) z) (fits_form z) e).1

pub law_of_bound_constants : LawOfBoundConstants
law_of_bound_constants f g = record {
  least = all_of (λ c. negsuc 0 ≤ℤ c) (bound_constants f g)
      (omega (arith, ints), (omega (arith, ints), (omega (arith, ints), each_from AtLeastMinusOne kept at_least)));
  fit = all_of FitsForm (bound_constants f g) (omega arith, (omega arith, (omega arith, each_from FitsForm kept fits)));
  rising = pairs_of Less (bound_constants f g)
      (first, (second, (third, listed_take 10 (rising (filter is_further all)) (listed_rising (filter is_further all)))));
  few = let short = short_take 10 (rising (filter is_further all)) in omega (arith, short);
}
  where
    all : List ℤ
    all = constants_in f.body ++ constants_in g.body

    kept : List ℤ
    kept = ten_least all

    more : (a : ℤ) → IsOneOf a (ten_least all) → pos 1 <ℤ a
    more a one = further_above a (least_is all a one).1

    AtLeastMinusOne : ℤ → Type 0
    AtLeastMinusOne a = negsuc 0 ≤ℤ a

    at_least : (a : ℤ) → IsOneOf a (ten_least all) → negsuc 0 ≤ℤ a
    at_least a one = let h = more a one in omega (arith, ints, h)

    fits : (a : ℤ) → IsOneOf a (ten_least all) → FitsForm a
    fits a one = further_fits a (least_is all a one).1

    over : (b a : ℤ) → b <ℤ pos 1 → pos 1 <ℤ a → b <ℤ a
    over b a k h = omega (arith, ints, k, h)

    first : Each (Less (negsuc 0)) (pos 0 ∷ pos 1 ∷ kept)
    first = (omega (arith, ints), (omega (arith, ints), each_from (Less (negsuc 0)) kept (λ a one. over (negsuc 0) a (omega (arith, ints)) (more a one))))

    second : Each (Less (pos 0)) (pos 1 ∷ kept)
    second = (omega (arith, ints), each_from (Less (pos 0)) kept (λ a one. over (pos 0) a (omega (arith, ints)) (more a one)))

    third : Each (Less (pos 1)) kept
    third = each_from (Less (pos 1)) kept more
