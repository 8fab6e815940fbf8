-- The sum of a shape's four terms is the sum of all products with its list of coefficients.
use Rattle.std.proofs.Common.{◌≡◌, ◌≢◌, ℕ, zero, suc, ◌+◌, ◌-◌, ◌<◌, ◌≤◌, Bool, true, false, ltb-true, below_more, get_or-set_other, get_or-set_same, List, [], ◌∷◌, ◌++◌, length, get_or, arith, refl, sym, ◌∙◌, ap}
use borrow.Author.Tests.{ltb-false}
use Rattle.std.specs.Prelude.{ℤ, nat_lt, slice_set, pos, ◌+ℤ◌, ◌*ℤ◌}
use Rattle.std.proofs.lemmas.Int.{ints}
use Rattle.lin_terms.specs.Vectors.{dot, plus}
use Rattle.lin_terms.proofs.Laws.{dot-plus, dot-zeros}
use Rattle.miners.specs.declared.shape.Term.{Term}
use Rattle.miners.specs.declared.shape.Shape.{Shape}
use Rattle.miners.specs.Sparse.{coef_of, only_at, coef_at, told, coefs_of}
use Rattle.miners.specs.Kept.{value_within, IsWithin, product_at, sum_at}
use Rattle.miners.proofs.Enumerated.{told_later}

told_plus : (f g : ℕ → ℤ) (i n : ℕ) → told (λ j. f j +ℤ g j) i n ≡ plus (told f i n) (told g i n)
told_plus f g i zero = refl
told_plus f g i (suc n) = ap (λ t. (f i +ℤ g i) ∷ t) (told_plus f g (suc i) n)

dot_told_plus : (f g : ℕ → ℤ) (n : ℕ) (values : List ℤ)
    → dot (told (λ j. f j +ℤ g j) 0 n) values ≡ dot (told f 0 n) values +ℤ dot (told g 0 n) values
dot_told_plus f g n values = ap (λ t. dot t values) (told_plus f g 0 n) ∙ dot-plus (told f 0 n) (told g 0 n) values

zeros_told : (i n j : ℕ) → get_or (told (λ j. pos 0) i n) j (pos 0) ≡ pos 0
zeros_told i zero j = refl
zeros_told i (suc n) zero = refl
zeros_told i (suc n) (suc j) = zeros_told (suc i) n j

times_zero : (x : ℤ) → pos 0 ≡ x *ℤ pos 0
times_zero x = omega (arith, ints)

with_zero : (x y : ℤ) → y ≡ pos 0 → x +ℤ y ≡ x
with_zero x y e = omega (arith, ints)

zero_times : (x y : ℤ) → (pos 0 *ℤ x) +ℤ y ≡ y
zero_times x y = omega (arith, ints)

dot_only : (index n : ℕ) (coef : ℤ) (values : List ℤ)
    → dot (told (only_at index coef) 0 n) values ≡ coef *ℤ value_within n values index
dot_only index zero coef values = times_zero coef
dot_only index (suc n) coef [] = times_zero coef
dot_only zero (suc n) coef (x ∷ values) =
    with_zero (coef *ℤ x) (dot (told (only_at zero coef) 1 n) values)
    (ap (λ t. dot t values) (told_later (only_at zero coef) 0 n) ∙ dot-zeros (told (λ j. pos 0) 0 n) values (zeros_told 0 n))
dot_only (suc index) (suc n) coef (x ∷ values) =
    zero_times x (dot (told (only_at (suc index) coef) 1 n) values)
    ∙ ap (λ t. dot t values) (told_later (only_at (suc index) coef) 0 n) ∙ dot_only index n coef values

abbrev at : Term → ℕ → ℤ
at t i = only_at t.index (coef_of t.coef) i

dot_term : (n : ℕ) (t : Term) (values point : List ℤ) → IsWithin n values point
    → dot (told (at t) 0 n) values ≡ product_at t point
dot_term n t values point within =
    dot_only t.index n (coef_of t.coef) values ∙ ap (λ x. coef_of t.coef *ℤ x) (sym (within t.index))

pub dot_coefs : (n : ℕ) (s : Shape) (values point : List ℤ) → IsWithin n values point → dot (coefs_of n s) values ≡ sum_at s point
unfolding coef_at sum_at
dot_coefs n s values point within =
    dot_told_plus (at s.first) (λ i. at s.second i +ℤ (at s.third i +ℤ at s.fourth i)) n values
    ∙ ap (λ x. dot (told (at s.first) 0 n) values +ℤ x)
    (dot_told_plus (at s.second) (λ i. at s.third i +ℤ at s.fourth i) n values
    ∙ ap (λ x. dot (told (at s.second) 0 n) values +ℤ x) (dot_told_plus (at s.third) (at s.fourth) n values))
    ∙ four (dot_term n s.first values point within) (dot_term n s.second values point within)
    (dot_term n s.third values point within) (dot_term n s.fourth values point within)
  where
    four : {a b c d e f g h : ℤ} → a ≡ e → b ≡ f → c ≡ g → d ≡ h → a +ℤ (b +ℤ (c +ℤ d)) ≡ e +ℤ (f +ℤ (g +ℤ h))
    four p q r s = cc

-- ---- values

pub within_past : (n i : ℕ) (values : List ℤ) → n ≤ i → value_within n values i ≡ pos 0
within_past zero i values h = refl
within_past (suc n) i [] h = refl
within_past (suc n) zero (x ∷ values) h = absurd (omega (arith, h))
within_past (suc n) (suc i) (x ∷ values) h = within_past n i values (omega (arith, h))

pub within_here : (n i : ℕ) (values : List ℤ) → i < n → value_within n values i ≡ get_or values i (pos 0)
within_here zero i values h = absurd (omega (arith, h))
within_here (suc n) zero [] h = refl
within_here (suc n) (suc i) [] h = refl
within_here (suc n) zero (x ∷ values) h = refl
within_here (suc n) (suc i) (x ∷ values) h = within_here n i values (omega (arith, h))

get_past : (values : List ℤ) (i : ℕ) → length values ≤ i → get_or values i (pos 0) ≡ pos 0
get_past [] i h = refl
get_past (x ∷ values) zero h = absurd (omega (arith, h))
get_past (x ∷ values) (suc i) h = get_past values i (omega (arith, h))

pub get_first : (xs ys : List ℤ) (i : ℕ) (d : ℤ) → i < length xs → get_or (xs ++ ys) i (pos 0) ≡ get_or xs i d
get_first [] ys i d h = absurd (omega (arith, h))
get_first (x ∷ xs) ys zero d h = refl
get_first (x ∷ xs) ys (suc i) d h = get_first xs ys i d (omega (arith, h))

pub get_second : (xs ys : List ℤ) (i j : ℕ) → i ≡ length xs + j → get_or (xs ++ ys) i (pos 0) ≡ get_or ys j (pos 0)
get_second [] ys i j h = ap (λ t. get_or ys t (pos 0)) (omega (arith, h))
get_second (x ∷ xs) ys zero j h = absurd (omega (arith, h))
get_second (x ∷ xs) ys (suc i) j h = get_second xs ys i j (omega (arith, h))

pub at_first : (n i : ℕ) (xs ys : List ℤ) → i < n → i < length xs → get_or xs i (pos 0) ≡ value_within n (xs ++ ys) i
at_first n i xs ys h k = sym (within_here n i (xs ++ ys) h ∙ get_first xs ys i (pos 0) k)

pub at_second : (n i : ℕ) (xs ys : List ℤ) → i < n → length xs ≤ i → get_or ys (i - length xs) (pos 0) ≡ value_within n (xs ++ ys) i
at_second n i xs ys h k = sym (within_here n i (xs ++ ys) h ∙ get_second xs ys i (i - length xs) (omega (arith, k)))

-- ---- a point that is made place by place

pub made_more : (f : ℕ → ℤ) (values : List ℤ) (place : ℕ) (x v : ℤ) → place < length values → x ≡ f place → v ≡ x
    → ((i : ℕ) → i < place → get_or values i (pos 0) ≡ f i)
    → (i : ℕ) → i < place + 1 → get_or (slice_set values place v) i (pos 0) ≡ f i
made_more f values place x v below e is before = below_more _ _
    (λ i h. let other : i ≢ place = omega (arith, h) in rw get_or-set_other (before i h))
    (get_or-set_same values place v (pos 0) below ∙ is ∙ e)

pub made_whole : (n place : ℕ) (values all : List ℤ) → n ≤ 16 → length values ≡ 16 → 16 ≤ place
    → ((i : ℕ) → i < place → get_or values i (pos 0) ≡ value_within n all i) → IsWithin n all values
made_whole n place values all narrow size past made i = by (nat_lt i 16) refl
  where
    by : (b : Bool) → nat_lt i 16 ≡ b → get_or values i (pos 0) ≡ value_within n all i
    by true e = made i (omega (arith, ltb-true i 16 e, past))
    by false e =
        let h : 16 ≤ i = ltb-false i 16 e in
        get_past values i (omega (arith, size, h)) ∙ sym (within_past n i all (omega (arith, narrow, h)))

-- ---- single coefficients

pub only_here : (index : ℕ) (coef : ℤ) → only_at index coef index ≡ coef
only_here zero coef = refl
only_here (suc index) coef = only_here index coef

pub only_elsewhere : (index i : ℕ) (coef : ℤ) → index ≢ i → only_at index coef i ≡ pos 0
only_elsewhere zero zero coef h = absurd (h refl)
only_elsewhere zero (suc i) coef h = refl
only_elsewhere (suc index) zero coef h = refl
only_elsewhere (suc index) (suc i) coef h = only_elsewhere index i coef (λ e. h (ap suc e))
