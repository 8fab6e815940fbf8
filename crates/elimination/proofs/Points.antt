-- The values of rows at points, and what becomes of them where the point is moved.
use Rattle.std.proofs.Common.{◌≡◌, ℕ, zero, suc, ◌<◌, Bool, true, false, List, [], ◌∷◌, arith, refl, sym, ◌∙◌, ap, length, get_or, set}
use Rattle.std.specs.Prelude.{ℤ, pos, negsuc, neg_ℤ, ◌+ℤ◌, ◌*ℤ◌, ◌-ℤ◌, ◌≤ℤ◌, ◌<ℤ◌}
use Rattle.std.specs.List.{AllByRecursion}
use Rattle.std.proofs.lemmas.Int.{ints}
use Rattle.lin_terms.specs.Vectors.{dot, plus, scaled}
use Rattle.lin_terms.specs.Row.{Allows, Meets}
use Rattle.elimination.proofs.Ring.{as_dif, same_dif, difs}
use Rattle.lin_terms.proofs.Laws.{dot-plus, dot-scaled, get_or-plus, get_or-scaled, length-scaled, nonneg_mul}
use Rattle.elimination.specs.Combination.{Combination, entry, is_zero, is_positive, is_negative, sign, size, combined}

-- the value of `coefs · v + constant` at numbers over a denominator, times the denominator
abbrev pub value_over : List ℤ → ℤ → List ℤ → ℤ → ℤ
value_over coefs constant numbers denominator = dot coefs numbers +ℤ (constant *ℤ denominator)

abbrev pub value : List ℤ → ℤ → Combination → ℤ
value numbers denominator row = value_over row.row.coefs row.row.constant numbers denominator

abbrev pub MeetsEach : List ℤ → ℤ → List Combination → Type 0
MeetsEach numbers denominator rows = AllByRecursion (λ row. Meets numbers denominator row.row) rows

-- ---- a point whose number at j is y, and whose other numbers and denominator are k times as great

scale_step : (k x z s : ℤ) → (x *ℤ (k *ℤ z)) +ℤ (k *ℤ s) ≡ k *ℤ ((x *ℤ z) +ℤ s)
scale_step k x z s = rw (as_dif k, as_dif x, as_dif z, as_dif s) (simp difs (same_dif _ _ _ _ (omega arith)))

dot-scaled_right : (k : ℤ) (xs zs : List ℤ) → dot xs (scaled k zs) ≡ k *ℤ dot xs zs
dot-scaled_right k [] zs = omega (arith, ints)
dot-scaled_right k (x ∷ xs) [] = omega (arith, ints)
dot-scaled_right k (x ∷ xs) (z ∷ zs) = ap (λ t. (x *ℤ (k *ℤ z)) +ℤ t) (dot-scaled_right k xs zs) ∙ scale_step k x z (dot xs zs)

dot-set : (xs zs : List ℤ) (j : ℕ) (y : ℤ) → j < length zs
    → dot xs (set zs j y) +ℤ (get_or xs j (pos 0) *ℤ get_or zs j (pos 0)) ≡ dot xs zs +ℤ (get_or xs j (pos 0) *ℤ y)
dot-set [] zs j y inside = omega (arith, ints)
dot-set (x ∷ xs) [] j y inside = absurd (omega arith)
dot-set (x ∷ xs) (z ∷ zs) zero y inside = omega (arith, ints)
dot-set (x ∷ xs) (z ∷ zs) (suc j) y inside =
    let later : j < length zs = omega arith in omega (arith, ints, dot-set xs zs j y later)

moved_first : (s u c k d : ℤ) → s +ℤ (c *ℤ (k *ℤ d)) ≡ ((s +ℤ u) -ℤ u) +ℤ (c *ℤ (k *ℤ d))
moved_first s u c k d =
    rw (as_dif s, as_dif u, as_dif c, as_dif k, as_dif d) (simp difs (same_dif _ _ _ _ (omega arith)))

moved_last : (t a x y k c d : ℤ)
    → (((k *ℤ t) +ℤ (a *ℤ y)) -ℤ (a *ℤ (k *ℤ x))) +ℤ (c *ℤ (k *ℤ d)) ≡ (k *ℤ ((t +ℤ (c *ℤ d)) -ℤ (a *ℤ x))) +ℤ (a *ℤ y)
moved_last t a x y k c d =
    rw (as_dif t, as_dif a, as_dif x, as_dif y, as_dif k, as_dif c, as_dif d) (simp difs (same_dif _ _ _ _ (omega arith)))

pub value-moved : (coefs : List ℤ) (c : ℤ) (numbers : List ℤ) (d k y : ℤ) (j : ℕ) → j < length numbers
    → value_over coefs c (set (scaled k numbers) j y) (k *ℤ d)
    ≡ (k *ℤ (value_over coefs c numbers d -ℤ (get_or coefs j (pos 0) *ℤ get_or numbers j (pos 0)))) +ℤ (get_or coefs j (pos 0) *ℤ y)
value-moved coefs c numbers d k y j inside =
    let a : ℤ = get_or coefs j (pos 0) in
    let x : ℤ = get_or numbers j (pos 0) in
    let replaced = rw (get_or-scaled k numbers j, dot-scaled_right k coefs numbers) at
    (dot-set coefs (scaled k numbers) j y (rw (length-scaled k numbers) inside)) in
    moved_first (dot coefs (set (scaled k numbers) j y)) (a *ℤ (k *ℤ x)) c k d
    ∙ ap (λ t. (t -ℤ (a *ℤ (k *ℤ x))) +ℤ (c *ℤ (k *ℤ d))) replaced
    ∙ moved_last (dot coefs numbers) a x y k c d

-- ---- a sum of two rows

pub dot-sum : (k : ℤ) (xs : List ℤ) (l : ℤ) (ys zs : List ℤ) → dot (plus (scaled k xs) (scaled l ys)) zs ≡ (k *ℤ dot xs zs) +ℤ (l *ℤ dot ys zs)
dot-sum k xs l ys zs = rw (dot-plus (scaled k xs) (scaled l ys) zs, dot-scaled k xs zs, dot-scaled l ys zs) refl

sum_step : (k p l q c e d : ℤ)
    → ((k *ℤ p) +ℤ (l *ℤ q)) +ℤ (((k *ℤ c) +ℤ (l *ℤ e)) *ℤ d) ≡ (k *ℤ (p +ℤ (c *ℤ d))) +ℤ (l *ℤ (q +ℤ (e *ℤ d)))
sum_step k p l q c e d =
    rw (as_dif k, as_dif p, as_dif l, as_dif q, as_dif c, as_dif e, as_dif d) (simp difs (same_dif _ _ _ _ (omega arith)))

pub value-combined : (numbers : List ℤ) (d k : ℤ) (p : Combination) (l : ℤ) (q : Combination)
    → value numbers d (combined k p l q) ≡ (k *ℤ value numbers d p) +ℤ (l *ℤ value numbers d q)
value-combined numbers d k p l q =
    rw (dot-sum k p.row.coefs l q.row.coefs numbers)
    (sum_step k (dot p.row.coefs numbers) l (dot q.row.coefs numbers) p.row.constant q.row.constant d)

pub entry-combined : (i : ℕ) (k : ℤ) (p : Combination) (l : ℤ) (q : Combination)
    → entry i (combined k p l q) ≡ (k *ℤ entry i p) +ℤ (l *ℤ entry i q)
entry-combined i k p l q =
    get_or-plus (scaled k p.row.coefs) (scaled l q.row.coefs) i
    ∙ ap (λ t. t +ℤ get_or (scaled l q.row.coefs) i (pos 0)) (get_or-scaled k p.row.coefs i)
    ∙ ap (λ t. (k *ℤ entry i p) +ℤ t) (get_or-scaled l q.row.coefs i)

-- ---- signs

pub sign-mul : (a : ℤ) → sign a *ℤ a ≡ size a
sign-mul (pos zero) = refl
sign-mul (pos (suc n)) = omega (arith, ints)
sign-mul (negsuc n) = omega (arith, ints)

pub size_positive : (a : ℤ) → is_zero a ≡ false → pos 0 <ℤ size a
size_positive (pos zero) e = cc
size_positive (pos (suc n)) e = omega (arith, ints)
size_positive (negsuc n) e = omega (arith, ints)

pub zero_is : (a : ℤ) → is_zero a ≡ true → a ≡ pos 0
zero_is (pos zero) e = refl
zero_is (pos (suc n)) e = cc
zero_is (negsuc n) e = cc

pub size_of_positive : (a : ℤ) → is_positive a ≡ true → size a ≡ a
size_of_positive (pos zero) e = refl
size_of_positive (pos (suc n)) e = refl
size_of_positive (negsuc n) e = cc

pub size_of_negative : (a : ℤ) → is_negative a ≡ true → size a ≡ neg_ℤ a
size_of_negative (pos n) e = cc
size_of_negative (negsuc n) e = refl

pub positive_not_zero : (a : ℤ) → is_positive a ≡ true → is_zero a ≡ false
positive_not_zero (pos zero) e = sym e
positive_not_zero (pos (suc n)) e = refl
positive_not_zero (negsuc n) e = refl

pub negative_not_zero : (a : ℤ) → is_negative a ≡ true → is_zero a ≡ false
negative_not_zero (pos n) e = cc
negative_not_zero (negsuc n) e = refl

-- a multiple of a value is allowed where the value is
pub allows_multiple : (equality : Bool) (k v : ℤ) → pos 0 ≤ℤ k → Allows equality v → Allows equality (k *ℤ v)
allows_multiple true k v not_negative allowed = ap (λ t. k *ℤ t) allowed ∙ omega (arith, ints)
allows_multiple false k v not_negative allowed = nonneg_mul k v not_negative allowed
