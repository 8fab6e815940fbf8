-- Dot products.
use Rattle.std.proofs.Common.{◌≡◌, ℕ, zero, suc, Bool, true, List, [], ◌∷◌, arith, refl, ◌∙◌, ap, ◌<◌, ◌≤◌, ◌+◌, ◌++◌, drop, ⊎_elim, length, get_or, replicate}
use Rattle.std.specs.Prelude.{ℤ, pos, ◌+ℤ◌, ◌*ℤ◌}
use Rattle.std.specs.List.{list_all}
use Rattle.std.proofs.lemmas.Int.{ints}
use Rattle.std.proofs.lemmas.Bool.{and_parts, cases_lt}
use Rattle.std.proofs.Math.ListN.{drop_of_length-le}
use Rattle.std.proofs.lemmas.List.{drop_more, get_or_past}
use Rattle.lin_terms.specs.Vectors.{dot, plus, scaled, only_at}
use Rattle.lin_terms.proofs.Ring.{as_dif, same_dif, difs}

add_mul_step : (x y z s t : ℤ) → ((x +ℤ y) *ℤ z) +ℤ (s +ℤ t) ≡ ((x *ℤ z) +ℤ s) +ℤ ((y *ℤ z) +ℤ t)
add_mul_step x y z s t =
    rw (as_dif x, as_dif y, as_dif z, as_dif s, as_dif t) (simp difs (same_dif _ _ _ _ (omega arith)))

pub dot-plus : (xs ys zs : List ℤ) → dot (plus xs ys) zs ≡ dot xs zs +ℤ dot ys zs
dot-plus [] ys zs = omega (arith, ints)
dot-plus (x ∷ xs) [] zs = omega (arith, ints)
dot-plus (x ∷ xs) (y ∷ ys) [] = refl
dot-plus (x ∷ xs) (y ∷ ys) (z ∷ zs) = ap (λ t. ((x +ℤ y) *ℤ z) +ℤ t) (dot-plus xs ys zs) ∙ add_mul_step x y z (dot xs zs) (dot ys zs)

scale_step : (k x z s : ℤ) → ((k *ℤ x) *ℤ z) +ℤ (k *ℤ s) ≡ k *ℤ ((x *ℤ z) +ℤ s)
scale_step k x z s =
    rw (as_dif k, as_dif x, as_dif z, as_dif s) (simp difs (same_dif _ _ _ _ (omega arith)))

pub dot-scaled : (k : ℤ) (xs zs : List ℤ) → dot (scaled k xs) zs ≡ k *ℤ dot xs zs
dot-scaled k [] zs = omega (arith, ints)
dot-scaled k (x ∷ xs) [] = omega (arith, ints)
dot-scaled k (x ∷ xs) (z ∷ zs) = ap (λ t. ((k *ℤ x) *ℤ z) +ℤ t) (dot-scaled k xs zs) ∙ scale_step k x z (dot xs zs)

pub length-scaled : (k : ℤ) (xs : List ℤ) → length (scaled k xs) ≡ length xs
length-scaled k [] = refl
length-scaled k (x ∷ xs) = ap suc (length-scaled k xs)

pub length-plus : (xs ys : List ℤ) → length xs ≡ length ys → length (plus xs ys) ≡ length xs
length-plus [] [] len = refl
length-plus [] (y ∷ ys) len = absurd (omega arith)
length-plus (x ∷ xs) [] len = refl
length-plus (x ∷ xs) (y ∷ ys) len = ap suc (length-plus xs ys (omega arith))

pub get_or-plus : (xs ys : List ℤ) (j : ℕ) → get_or (plus xs ys) j (pos 0) ≡ get_or xs j (pos 0) +ℤ get_or ys j (pos 0)
get_or-plus [] ys j = omega (arith, ints)
get_or-plus (x ∷ xs) [] j = omega (arith, ints)
get_or-plus (x ∷ xs) (y ∷ ys) zero = refl
get_or-plus (x ∷ xs) (y ∷ ys) (suc j) = get_or-plus xs ys j

pub get_or-scaled : (k : ℤ) (xs : List ℤ) (j : ℕ) → get_or (scaled k xs) j (pos 0) ≡ k *ℤ get_or xs j (pos 0)
get_or-scaled k [] j = omega (arith, ints)
get_or-scaled k (x ∷ xs) zero = refl
get_or-scaled k (x ∷ xs) (suc j) = get_or-scaled k xs j

-- ---- entries that are all 0

-- where each passes a test that only 0 passes
pub zero_entries : (test : ℤ → Bool) → ((x : ℤ) → test x ≡ true → x ≡ pos 0) → (xs : List ℤ) → list_all test xs ≡ true
    → (j : ℕ) → get_or xs j (pos 0) ≡ pos 0
zero_entries test is_zero [] all j = refl
zero_entries test is_zero (x ∷ xs) all zero = is_zero x (and_parts (test x) (list_all test xs) all).0
zero_entries test is_zero (x ∷ xs) all (suc j) = zero_entries test is_zero xs (and_parts (test x) (list_all test xs) all).1 j

pub get_or-zeros : (n j : ℕ) → get_or (replicate n (pos 0)) j (pos 0) ≡ pos 0
get_or-zeros zero j = refl
get_or-zeros (suc n) zero = refl
get_or-zeros (suc n) (suc j) = get_or-zeros n j

pub dot-zeros : (xs values : List ℤ) → ((j : ℕ) → get_or xs j (pos 0) ≡ pos 0) → dot xs values ≡ pos 0
dot-zeros [] values zeros = refl
dot-zeros (x ∷ xs) [] zeros = refl
dot-zeros (x ∷ xs) (v ∷ values) zeros = rw (zeros 0, dot-zeros xs values (λ j. zeros (suc j))) (omega (arith, ints))

pub dot-replicate : (n : ℕ) (values : List ℤ) → dot (replicate n (pos 0)) values ≡ pos 0
dot-replicate n values = dot-zeros (replicate n (pos 0)) values (get_or-zeros n)

-- ---- lists that are joined, and one entry alone

regroup : (a b c : ℤ) → a +ℤ (b +ℤ c) ≡ (a +ℤ b) +ℤ c
regroup a b c = omega (arith, ints)

pub dot-append : (a b x y : List ℤ) → length a ≡ length x → dot (a ++ b) (x ++ y) ≡ dot a x +ℤ dot b y
dot-append [] b [] y long = omega (arith, ints)
dot-append [] b (v ∷ x) y long = absurd (omega arith)
dot-append (c ∷ a) b [] y long = absurd (omega arith)
dot-append (c ∷ a) b (v ∷ x) y long = ap (λ t. (c *ℤ v) +ℤ t) (dot-append a b x y (omega arith)) ∙ regroup (c *ℤ v) (dot a x) (dot b y)

first_alone : (m s : ℤ) → s ≡ pos 0 → m +ℤ s ≡ m
first_alone m s e = omega (arith, ints)

times_zero : (z : ℤ) → pos 0 ≡ z *ℤ pos 0
times_zero z = omega (arith, ints)

pub dot-only_at : (n i : ℕ) (entry : ℤ) (values : List ℤ) → i < n → dot (only_at n i entry) values ≡ entry *ℤ get_or values i (pos 0)
dot-only_at zero i entry values below = absurd (omega arith)
dot-only_at (suc n) zero entry [] below = times_zero entry
dot-only_at (suc n) (suc i) entry [] below = times_zero entry
dot-only_at (suc n) zero entry (v ∷ values) below = first_alone (entry *ℤ v) (dot (replicate n (pos 0)) values) (dot-replicate n values)
dot-only_at (suc n) (suc i) entry (v ∷ values) below =
    let e : (pos 0 *ℤ v) +ℤ dot (only_at n i entry) values ≡ dot (only_at n i entry) values = omega (arith, ints) in
    e ∙ dot-only_at n i entry values (omega arith)

dot-nil : (xs : List ℤ) → dot xs [] ≡ pos 0
dot-nil [] = refl
dot-nil (x ∷ xs) = refl

nothing_left : (x : ℤ) → pos 0 ≡ (x *ℤ pos 0) +ℤ pos 0
nothing_left x = omega (arith, ints)

-- the products from one place on
pub dot-drop : (xs ys : List ℤ) (i : ℕ) → i < length xs
    → dot (drop i xs) (drop i ys) ≡ (get_or xs i (pos 0) *ℤ get_or ys i (pos 0)) +ℤ dot (drop (i + 1) xs) (drop (i + 1) ys)
dot-drop xs ys i in_xs =
    ⊎_elim (λ (in_ys : i < length ys). rw (drop_more xs i (pos 0) in_xs, drop_more ys i (pos 0) in_ys) refl)
    (λ (past : length ys ≤ i).
    let later : length ys ≤ i + 1 = omega arith in
    rw (drop_of_length-le ys past, drop_of_length-le ys later, get_or_past ys i (pos 0) past, dot-nil (drop i xs), dot-nil (drop (i + 1) xs))
    (nothing_left (get_or xs i (pos 0))))
    (cases_lt i (length ys))
