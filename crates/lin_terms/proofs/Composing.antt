-- Forms that take the places of variables.
use Rattle.std.proofs.Common.{◌≡◌, ℕ, zero, suc, ◌<◌, ◌≤◌, List, [], ◌∷◌, map, take, ◌++◌, ◌+◌, arith, refl, sym, subst, ◌∙◌, ap, length, get_or, replicate, true, false, Bool}
use Rattle.std.specs.Prelude.{ℤ, pos, ◌+ℤ◌, ◌*ℤ◌, All}
use Rattle.std.specs.List.{AllByRecursion, list_all}
use Rattle.std.proofs.lemmas.Int.{ints}
use Rattle.std.proofs.lemmas.Bool.{and_parts}
use Rattle.std.proofs.lemmas.List.{length-replicate, take_more}
use Rattle.std.proofs.Math.Seq.{take-length}
use Rattle.std.proofs.lemmas.List.Elements.{recursion_from_All}
use Rattle.lin_terms.specs.declared.form.Form.{Form}
use Rattle.lin_terms.specs.Bounds.{fits_form, fit_form}
use Rattle.lin_terms.specs.Vectors.{dot, plus, scaled}
use Rattle.lin_terms.specs.Form.{value_at, entries_at, constants_of, combined_coefs, composed_coefs, composed}
use Rattle.lin_terms.proofs.Ring.{as_dif, same_dif, difs}
use Rattle.lin_terms.proofs.FormLemmas.{equal_parts}
use Rattle.lin_terms.proofs.Dots.{dot-plus, dot-scaled, get_or-plus, get_or-scaled, get_or-zeros, dot-replicate, length-scaled}

get_or-combined : (ks : List ℤ) (forms : List Form) (j : ℕ) → get_or (combined_coefs ks forms) j (pos 0) ≡ dot ks (entries_at j forms)
get_or-combined [] forms j = refl
get_or-combined (k ∷ ks) [] j = refl
get_or-combined (k ∷ ks) (form ∷ forms) j =
    get_or-plus (scaled k form.coefs) (combined_coefs ks forms) j
    ∙ ap (λ t. t +ℤ get_or (combined_coefs ks forms) j (pos 0)) (get_or-scaled k form.coefs j)
    ∙ ap (λ t. (k *ℤ get_or form.coefs j (pos 0)) +ℤ t) (get_or-combined ks forms j)

zero_first : (z : ℤ) → pos 0 +ℤ z ≡ z
zero_first z = omega (arith, ints)

-- the entry at a place is the sum of the forms' entries there, each times its factor
pub get_or-composed : (n : ℕ) (ks : List ℤ) (forms : List Form) (j : ℕ) → get_or (composed_coefs n ks forms) j (pos 0) ≡ dot ks (entries_at j forms)
get_or-composed n ks forms j =
    get_or-plus (replicate n (pos 0)) (combined_coefs ks forms) j
    ∙ ap (λ t. t +ℤ get_or (combined_coefs ks forms) j (pos 0)) (get_or-zeros n j)
    ∙ zero_first (get_or (combined_coefs ks forms) j (pos 0)) ∙ get_or-combined ks forms j

-- ---- lengths

length-plus_longer : (xs ys : List ℤ) → length ys ≤ length xs → length (plus xs ys) ≡ length xs
length-plus_longer [] [] long = refl
length-plus_longer [] (y ∷ ys) long = absurd (omega arith)
length-plus_longer (x ∷ xs) [] long = refl
length-plus_longer (x ∷ xs) (y ∷ ys) long = ap suc (length-plus_longer xs ys (omega arith))

length-plus_below : (n : ℕ) (xs ys : List ℤ) → length xs ≤ n → length ys ≤ n → length (plus xs ys) ≤ n
length-plus_below n [] ys long_x long_y = long_y
length-plus_below n (x ∷ xs) [] long_x long_y = long_x
length-plus_below zero (x ∷ xs) (y ∷ ys) long_x long_y = absurd (omega arith)
length-plus_below (suc n) (x ∷ xs) (y ∷ ys) long_x long_y =
    let later = length-plus_below n xs ys (omega arith) (omega arith) in omega arith

length-combined : (n : ℕ) (ks : List ℤ) (forms : List Form) → AllByRecursion (λ form. length form.coefs ≤ n) forms
    → length (combined_coefs ks forms) ≤ n
length-combined n [] forms long = omega arith
length-combined n (k ∷ ks) [] long = omega arith
length-combined n (k ∷ ks) (form ∷ forms) long =
    length-plus_below n (scaled k form.coefs) (combined_coefs ks forms) (omega (arith, length-scaled k form.coefs, long.0)) (length-combined n ks forms long.1)

pub length-composed : (n : ℕ) (ks : List ℤ) (forms : List Form) → All (λ form. length form.coefs ≤ n) forms
    → length (composed_coefs n ks forms) ≡ n
length-composed n ks forms long =
    let e = length-replicate n (pos 0) in
    let within = length-combined n ks forms (recursion_from_All (λ (form : Form). length form.coefs ≤ n) forms long) in
    length-plus_longer (replicate n (pos 0)) (combined_coefs ks forms) (omega arith) ∙ e

-- ---- values

compose_step : (k d c s t : ℤ) → ((k *ℤ d) +ℤ s) +ℤ ((k *ℤ c) +ℤ t) ≡ (k *ℤ (d +ℤ c)) +ℤ (s +ℤ t)
compose_step k d c s t = rw (as_dif k, as_dif d, as_dif c, as_dif s, as_dif t) (simp difs (same_dif _ _ _ _ (omega arith)))

-- the values of the forms, by number
abbrev pub values_of : List ℤ → List Form → List ℤ
values_of values forms = map (λ form. value_at form values) forms

dot-combined : (ks : List ℤ) (forms : List Form) (values : List ℤ)
    → dot (combined_coefs ks forms) values +ℤ dot ks (constants_of forms) ≡ dot ks (values_of values forms)
dot-combined [] forms values = refl
dot-combined (k ∷ ks) [] values = refl
dot-combined (k ∷ ks) (form ∷ forms) values =
    ap (λ z. z +ℤ ((k *ℤ form.constant) +ℤ dot ks (constants_of forms)))
    (dot-plus (scaled k form.coefs) (combined_coefs ks forms) values ∙ ap (λ z. z +ℤ dot (combined_coefs ks forms) values) (dot-scaled k form.coefs values))
    ∙ compose_step k (dot form.coefs values) form.constant (dot (combined_coefs ks forms) values) (dot ks (constants_of forms))
    ∙ ap (λ z. (k *ℤ value_at form values) +ℤ z) (dot-combined ks forms values)

regrouped : (a b c : ℤ) → a +ℤ (b +ℤ c) ≡ (a +ℤ b) +ℤ c
regrouped a b c = omega (arith, ints)

pub value_at-composed : (n : ℕ) (form : Form) (forms : List Form) (values : List ℤ)
    → value_at (composed n form forms) values ≡ value_at form (values_of values forms)
value_at-composed n form forms values =
    let zeros = dot-plus (replicate n (pos 0)) (combined_coefs form.coefs forms) values
    ∙ ap (λ z. z +ℤ dot (combined_coefs form.coefs forms) values) (dot-replicate n values) ∙ zero_first (dot (combined_coefs form.coefs forms) values) in
    ap (λ z. z +ℤ (dot form.coefs (constants_of forms) +ℤ form.constant)) zeros
    ∙ regrouped (dot (combined_coefs form.coefs forms) values) (dot form.coefs (constants_of forms)) form.constant
    ∙ ap (λ z. z +ℤ form.constant) (dot-combined form.coefs forms values)

pub value_at-made_composed : (f : Form) (n : ℕ) (form : Form) (forms : List Form) → f.coefs ≡ composed_coefs n form.coefs forms
    → f.constant ≡ dot form.coefs (constants_of forms) +ℤ form.constant
    → (values : List ℤ) → value_at f values ≡ value_at form (values_of values forms)
value_at-made_composed f n form forms p q values =
    ap (λ (other : Form). value_at other values) (equal_parts f (composed n form forms) p q) ∙ value_at-composed n form forms values

-- ---- tests of entries

-- where all entries pass a test, the one at a place does
pub passes_at : (test : ℤ → Bool) (xs : List ℤ) (j : ℕ) (t : Bool) → j < length xs → test (get_or xs j (pos 0)) ≡ t → list_all test xs ≡ true → t ≡ true
passes_at test [] j t below is all = absurd (omega arith)
passes_at test (x ∷ xs) zero t below is all = sym is ∙ (and_parts (test x) (list_all test xs) all).0
passes_at test (x ∷ xs) (suc j) t below is all = passes_at test xs j t (omega arith) is (and_parts (test x) (list_all test xs) all).1

pub take_one : (n : ℕ) (ks : List ℤ) (forms : List Form) (made : List ℤ) (j : ℕ) (entry : ℤ) → All (λ form. length form.coefs ≤ n) forms
    → j < n → entry ≡ dot ks (entries_at j forms) → made ≡ take j (composed_coefs n ks forms)
    → made ++ entry ∷ [] ≡ take (j + 1) (composed_coefs n ks forms)
take_one n ks forms made j entry long below is so_far =
    let all : List ℤ = composed_coefs n ks forms in
    let inside : j < length all = omega (arith, length-composed n ks forms long) in
    rw (so_far, is ∙ sym (get_or-composed n ks forms j)) (sym (take_more all j (pos 0) inside))

fits_append : (xs : List ℤ) (x : ℤ) → fit_form xs ≡ true → fits_form x ≡ true → fit_form (xs ++ x ∷ []) ≡ true
fits_append [] x all one = rw one refl
fits_append (y ∷ xs) x all one =
    let p = and_parts (fits_form y) (fit_form xs) all in rw (p.0, fits_append xs x p.1 one) refl

pub fit_one : (n : ℕ) (ks : List ℤ) (forms : List Form) (j : ℕ) (entry : ℤ) → All (λ form. length form.coefs ≤ n) forms
    → j < n → entry ≡ dot ks (entries_at j forms) → fits_form entry ≡ true → fit_form (take j (composed_coefs n ks forms)) ≡ true
    → fit_form (take (j + 1) (composed_coefs n ks forms)) ≡ true
fit_one n ks forms j entry long below is fits all =
    subst (λ (xs : List ℤ). fit_form xs ≡ true) (take_one n ks forms (take j (composed_coefs n ks forms)) j entry long below is refl)
    (fits_append (take j (composed_coefs n ks forms)) entry all fits)

unfit : (b : Bool) → (b ≡ true → false ≡ true) → b ≡ false
unfit true h = absurd (let e = h refl in cc)
unfit false h = refl

-- where the entry at a place does not fit, the list does not
pub wide_one : (n : ℕ) (ks : List ℤ) (forms : List Form) (j : ℕ) (entry : ℤ) → All (λ form. length form.coefs ≤ n) forms
    → j < n → entry ≡ dot ks (entries_at j forms) → fits_form entry ≡ false → fit_form (composed_coefs n ks forms) ≡ false
wide_one n ks forms j entry long below is wide =
    let all : List ℤ = composed_coefs n ks forms in
    let inside : j < length all = omega (arith, length-composed n ks forms long) in
    let there : fits_form (get_or all j (pos 0)) ≡ false = ap fits_form (get_or-composed n ks forms j ∙ sym is) ∙ wide in
    unfit (fit_form all) (λ h. passes_at fits_form all j false inside there h)

-- all entries are taken
pub take_all : (n : ℕ) (ks : List ℤ) (forms : List Form) (j : ℕ) → All (λ form. length form.coefs ≤ n) forms → j ≡ n
    → take j (composed_coefs n ks forms) ≡ composed_coefs n ks forms
take_all n ks forms j long at_end =
    let all : List ℤ = composed_coefs n ks forms in
    ap (λ (m : ℕ). take m all) (at_end ∙ sym (length-composed n ks forms long)) ∙ take-length all
