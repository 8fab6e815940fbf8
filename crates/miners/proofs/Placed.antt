-- Terms that are placed in shapes, and what the coefficients of these have seen.
use Rattle.std.proofs.Common.{◌≡◌, ℕ, zero, suc, ◌+◌, ◌<◌, Bool, true, false, ◌&&◌, [], Some, None, arith, refl, ◌∙◌, ap, zero-add}
use Rattle.std.specs.Prelude.{ℤ, pos, ◌+ℤ◌, not, if◌then◌else◌, ◌==◌}
use Rattle.std.proofs.lemmas.Int.{ints}
use Rattle.miners.specs.declared.shape.Coef.{Coef}
use Rattle.miners.specs.declared.shape.Coef.TheVariants.{Two, One, Zero, MinusOne, MinusTwo}
use Rattle.miners.specs.declared.shape.Term.{Term}
use Rattle.miners.specs.declared.shape.Shape.{Shape}
use Rattle.miners.specs.declared.shape.Kind.TheVariants.{Equality, Bound}
use Rattle.miners.specs.Mined.{Sizes, sizes, are_few, with_coef, with_sign}
use Rattle.miners.specs.Sparse.{coef_of, is_zero, is_negative, ones_in, twos_in, only_at, coef_at, ones_of, twos_of, sizes_in, signs_in, Places, can_follow, grown_sizes, grown_signs, GoesOn}

pub only_zero : (index i : ℕ) → only_at index (pos 0) i ≡ pos 0
only_zero zero zero = refl
only_zero zero (suc i) = refl
only_zero (suc index) zero = refl
only_zero (suc index) (suc i) = only_zero index i

pub free_is_zero : (coef : Coef) → is_zero coef ≡ true → coef ≡ Zero
free_is_zero Two e = cc
free_is_zero One e = cc
free_is_zero Zero e = refl
free_is_zero MinusOne e = cc
free_is_zero MinusTwo e = cc

free_at : (t : Term) (i : ℕ) → is_zero t.coef ≡ true → only_at t.index (coef_of t.coef) i ≡ pos 0
free_at t i e = rw (free_is_zero t.coef e) (only_zero t.index i)

free_ones : (coef : Coef) → is_zero coef ≡ true → ones_in coef ≡ 0
free_ones coef e = rw (free_is_zero coef e) refl

free_twos : (coef : Coef) → is_zero coef ≡ true → twos_in coef ≡ 0
free_twos coef e = rw (free_is_zero coef e) refl

busy : (coef : Coef) → is_zero coef ≡ false → ones_in coef + twos_in coef ≡ 1
busy Two e = refl
busy One e = refl
busy Zero e = cc
busy MinusOne e = refl
busy MinusTwo e = refl

idle : (coef : Coef) → ones_in coef + twos_in coef ≡ 0 → is_zero coef ≡ true
idle Two e = absurd (omega (arith, e))
idle One e = absurd (omega (arith, e))
idle Zero e = refl
idle MinusOne e = absurd (omega (arith, e))
idle MinusTwo e = absurd (omega (arith, e))

first_out : (t a b c d : ℤ) → a ≡ pos 0 → t +ℤ (b +ℤ (c +ℤ d)) ≡ t +ℤ (a +ℤ (b +ℤ (c +ℤ d)))
first_out t a b c d e = omega (arith, ints)

second_out : (t a b c d : ℤ) → b ≡ pos 0 → a +ℤ (t +ℤ (c +ℤ d)) ≡ t +ℤ (a +ℤ (b +ℤ (c +ℤ d)))
second_out t a b c d e = omega (arith, ints)

third_out : (t a b c d : ℤ) → c ≡ pos 0 → a +ℤ (b +ℤ (t +ℤ d)) ≡ t +ℤ (a +ℤ (b +ℤ (c +ℤ d)))
third_out t a b c d e = omega (arith, ints)

fourth_out : (t a b c d : ℤ) → d ≡ pos 0 → a +ℤ (b +ℤ (c +ℤ t)) ≡ t +ℤ (a +ℤ (b +ℤ (c +ℤ d)))
fourth_out t a b c d e = omega (arith, ints)

-- the coefficient of the term at a place
abbrev at : Term → ℕ → ℤ
at t i = only_at t.index (coef_of t.coef) i

pub placed_first : (s : Shape) (t : Term) → is_zero s.first.coef ≡ true
    → Places s t.index t.coef (record { first = t; second = s.second; third = s.third; fourth = s.fourth })
unfolding coef_at ones_of twos_of
placed_first s t e = record {
  at = λ i. first_out (at t i) (at s.first i) (at s.second i) (at s.third i) (at s.fourth i) (free_at s.first i e);
  ones = let z = free_ones s.first.coef e in omega arith;
  twos = let z = free_twos s.first.coef e in omega arith;
}

pub placed_second : (s : Shape) (t : Term) → is_zero s.second.coef ≡ true
    → Places s t.index t.coef (record { first = s.first; second = t; third = s.third; fourth = s.fourth })
unfolding coef_at ones_of twos_of
placed_second s t e = record {
  at = λ i. second_out (at t i) (at s.first i) (at s.second i) (at s.third i) (at s.fourth i) (free_at s.second i e);
  ones = let z = free_ones s.second.coef e in omega arith;
  twos = let z = free_twos s.second.coef e in omega arith;
}

pub placed_third : (s : Shape) (t : Term) → is_zero s.third.coef ≡ true
    → Places s t.index t.coef (record { first = s.first; second = s.second; third = t; fourth = s.fourth })
unfolding coef_at ones_of twos_of
placed_third s t e = record {
  at = λ i. third_out (at t i) (at s.first i) (at s.second i) (at s.third i) (at s.fourth i) (free_at s.third i e);
  ones = let z = free_ones s.third.coef e in omega arith;
  twos = let z = free_twos s.third.coef e in omega arith;
}

last_is_free : (s : Shape) → ones_of s + twos_of s < 4 → is_zero s.first.coef ≡ false → is_zero s.second.coef ≡ false
    → is_zero s.third.coef ≡ false → is_zero s.fourth.coef ≡ true
unfolding ones_of twos_of
last_is_free s few a b c =
    let x = busy s.first.coef a in
    let y = busy s.second.coef b in
    let z = busy s.third.coef c in
    let w : ones_in s.fourth.coef + twos_in s.fourth.coef ≡ 0 = omega arith in
    idle s.fourth.coef w

pub placed_fourth : (s : Shape) (t : Term) → ones_of s + twos_of s < 4 → is_zero s.first.coef ≡ false
    → is_zero s.second.coef ≡ false → is_zero s.third.coef ≡ false
    → Places s t.index t.coef (record { first = s.first; second = s.second; third = s.third; fourth = t })
unfolding coef_at ones_of twos_of
placed_fourth s t few a b c =
    let e = last_is_free s few a b c in
    record {
      at = λ i. fourth_out (at t i) (at s.first i) (at s.second i) (at s.third i) (at s.fourth i) (free_at s.fourth i e);
      ones = let z = free_ones s.fourth.coef e in omega arith;
      twos = let z = free_twos s.fourth.coef e in omega arith;
    }

-- ---- what is seen

one_more : (n : ℕ) → 1 + n ≡ suc n
one_more n = omega arith

none_first : (begins few : Bool) (seen : Sizes)
    → (if begins then None else (if few then Some seen else None)) ≡ (if not begins && few then Some seen else None)
none_first true few seen = refl
none_first false true seen = refl
none_first false false seen = refl

-- a coefficient that is not 0 is taken exactly where it can follow
pub coef_follows : (s : Sizes) (coef : Coef) → is_zero coef ≡ false
    → with_coef s (coef_of coef)
    ≡ (if can_follow coef s then Some (sizes (ones_in coef + s.ones) (twos_in coef + s.twos)) else None)
coef_follows s Two e = simp (one_more, zero-add)
coef_follows s One e = simp (one_more, zero-add)
coef_follows s Zero e = cc
coef_follows s MinusOne e =
    simp (one_more, zero-add) (none_first (s.ones + s.twos == 0) (are_few (sizes (suc s.ones) s.twos)) (sizes (suc s.ones) s.twos))
coef_follows s MinusTwo e =
    simp (one_more, zero-add) (none_first (s.ones + s.twos == 0) (are_few (sizes s.ones (suc s.twos))) (sizes s.ones (suc s.twos)))

-- a shape that is not full goes on
pub few_are_below : (coef : Coef) (s : Sizes) → is_zero coef ≡ false → can_follow coef s ≡ true → s.ones + s.twos < 4
few_are_below coef s e f =
    let b = busy coef e in
    let g = right_true (not (is_negative coef && (s.ones + s.twos == 0))) _ f in
    by_few (ones_in coef + s.ones) (twos_in coef + s.twos) g (omega arith)
  where
    right_true : (a b : Bool) → (a && b) ≡ true → b ≡ true
    right_true true b h = h
    right_true false b h = cc

    by_few : (m n : ℕ) → are_few (sizes m n) ≡ true → m + n ≡ suc (s.ones + s.twos) → s.ones + s.twos < 4
    by_few m n h k = grind arith

pub equality_goes_on : (s next : Shape) (t : Term) → is_zero t.coef ≡ false → can_follow t.coef (sizes_in s) ≡ true
    → Places s t.index t.coef next → GoesOn Equality s t.index t.coef (Some next)
equality_goes_on s next t e f p =
    let taken : with_coef (sizes_in s) (coef_of t.coef) ≡ Some (sizes_in next) =
    coef_follows (sizes_in s) t.coef e ∙ rw (f, p.ones, p.twos) refl in
    ((λ n. ap (grown_sizes n) taken), p.at)

pub equality_stops : (s : Shape) (t : Term) → is_zero t.coef ≡ false → can_follow t.coef (sizes_in s) ≡ false
    → GoesOn Equality s t.index t.coef None
equality_stops s t e f =
    let none : with_coef (sizes_in s) (coef_of t.coef) ≡ None = coef_follows (sizes_in s) t.coef e ∙ rw f refl in
    λ n. ap (grown_sizes n) none ∙ none_grown n
  where
    none_grown : (n : ℕ) → grown_sizes n None ≡ []
    none_grown zero = refl
    none_grown (suc n) = refl

pub bound_goes_on_first : (s : Shape) (t : Term) → t.coef ≡ One → is_zero s.first.coef ≡ true
    → GoesOn Bound s t.index t.coef (Some (record { first = t; second = s.second; third = s.third; fourth = s.fourth }))
bound_goes_on_first s t e f =
    let next : Shape = record { first = t; second = s.second; third = s.third; fourth = s.fourth } in
    let taken : with_sign (signs_in s) (coef_of t.coef) ≡ Some (signs_in next) = rw (e, f) refl in
    ((λ n. ap (grown_signs n) taken), (placed_first s t f).at)

pub bound_goes_on_second : (s : Shape) (t : Term) → t.coef ≡ MinusOne → is_zero s.second.coef ≡ true
    → GoesOn Bound s t.index t.coef (Some (record { first = s.first; second = t; third = s.third; fourth = s.fourth }))
bound_goes_on_second s t e f =
    let next : Shape = record { first = s.first; second = t; third = s.third; fourth = s.fourth } in
    let taken : with_sign (signs_in s) (coef_of t.coef) ≡ Some (signs_in next) = rw (e, f) refl in
    ((λ n. ap (grown_signs n) taken), (placed_second s t f).at)

-- 0 changes nothing
pub zero_goes_on : (s : Shape) (t : Term) → t.coef ≡ Zero
    → GoesOn Equality s t.index t.coef (Some s) × GoesOn Bound s t.index t.coef (Some s)
zero_goes_on s t e =
    let same : (i : ℕ) → coef_at s i ≡ only_at t.index (coef_of t.coef) i +ℤ coef_at s i =
    λ i. rw (e, only_zero t.index i) (plus_zero (coef_at s i)) in
    (((λ n. rw e refl), same), ((λ n. rw e refl), same))
  where
    plus_zero : (x : ℤ) → x ≡ pos 0 +ℤ x
    plus_zero x = omega (arith, ints)
