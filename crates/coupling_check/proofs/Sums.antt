-- Sums of forms, each times its coefficient: their entries, their lengths and their sizes.
use Rattle.std.proofs.Common.{◌≡◌, ℕ, ◌+◌, ◌*◌, ◌<◌, ◌≤◌, ◌^◌, lit<, ◌⊎◌, inl, inr, ⊎_elim, List, [], ◌∷◌, length, get_or, replicate, refl, sym, ap, ◌∙◌, arith}
use Rattle.std.specs.Prelude.{ℤ, pos, neg_ℤ, ◌+ℤ◌, ◌*ℤ◌, unsigned_abs, All}
use Rattle.std.specs.List.{AllByRecursion}
use Rattle.std.proofs.lemmas.Int.{ints, unsigned_abs-mul}
use Rattle.std.proofs.lemmas.Nat.{mul-lt}
use Rattle.std.proofs.lemmas.Bool.{cases_lt}
use Rattle.std.proofs.lemmas.List.{length-replicate, get_or_past}
use Rattle.std.proofs.lemmas.List.Elements.{All-get_or, recursion_from_All}
use Rattle.lin_terms.specs.declared.form.Form.{Form}
use Rattle.lin_terms.specs.Bounds.{FitsForm}
use Rattle.lin_terms.specs.Vectors.{dot, plus, scaled}
use Rattle.lin_terms.specs.Form.{entries_at, constants_of, combined_coefs, composed_coefs}
use Rattle.lin_terms.specs.Makes.{IsFittingForm}
use Rattle.lin_terms.proofs.Laws.{get_or-plus, get_or-scaled, get_or-zeros, length-plus, length-scaled}
use Rattle.horn_clauses.specs.Obligations.{CanNegate}

-- ---- entries

get_or-combined : (ks : List ℤ) (forms : List Form) (j : ℕ) → get_or (combined_coefs ks forms) j (pos 0) ≡ dot ks (entries_at j forms)
get_or-combined [] forms j = refl
get_or-combined (k ∷ ks) [] j = refl
get_or-combined (k ∷ ks) (form ∷ forms) j =
    get_or-plus (scaled k form.coefs) (combined_coefs ks forms) j
    ∙ ap (λ t. t +ℤ get_or (combined_coefs ks forms) j (pos 0)) (get_or-scaled k form.coefs j)
    ∙ ap (λ t. (k *ℤ get_or form.coefs j (pos 0)) +ℤ t) (get_or-combined ks forms j)

zero_first : (z : ℤ) → pos 0 +ℤ z ≡ z
zero_first z = omega (arith, ints)

-- the entry at a place is the sum of the forms' entries there, each times its coefficient
pub get_or-composed : (n : ℕ) (ks : List ℤ) (forms : List Form) (j : ℕ) → get_or (composed_coefs n ks forms) j (pos 0) ≡ dot ks (entries_at j forms)
get_or-composed n ks forms j =
    get_or-plus (replicate n (pos 0)) (combined_coefs ks forms) j
    ∙ ap (λ t. t +ℤ get_or (combined_coefs ks forms) j (pos 0)) (get_or-zeros n j)
    ∙ zero_first (get_or (combined_coefs ks forms) j (pos 0)) ∙ get_or-combined ks forms j

-- ---- lengths

plus-nil : (xs : List ℤ) → plus xs [] ≡ xs
plus-nil [] = refl
plus-nil (x ∷ xs) = refl

sum_columns : (n : ℕ) (xs ys : List ℤ) → length xs ≡ n → (ys ≡ []) ⊎ (length ys ≡ n) → length (plus xs ys) ≡ n
sum_columns n xs ys long (inl none) = ap (λ (other : List ℤ). length (plus xs other)) none ∙ ap length (plus-nil xs) ∙ long
sum_columns n xs ys long (inr same) = length-plus xs ys (long ∙ sym same) ∙ long

combined_columns : (n : ℕ) (ks : List ℤ) (forms : List Form) → AllByRecursion (λ form. length form.coefs ≡ n) forms
    → (combined_coefs ks forms ≡ []) ⊎ (length (combined_coefs ks forms) ≡ n)
combined_columns n [] forms long = inl refl
combined_columns n (k ∷ ks) [] long = inl refl
combined_columns n (k ∷ ks) (form ∷ forms) long =
    inr (sum_columns n (scaled k form.coefs) (combined_coefs ks forms) (length-scaled k form.coefs ∙ long.0) (combined_columns n ks forms long.1))

-- forms of one length give a sum of that length
pub length-composed : (n : ℕ) (ks : List ℤ) (forms : List Form) → All (λ form. length form.coefs ≡ n) forms → length (composed_coefs n ks forms) ≡ n
length-composed n ks forms long =
    sum_columns n (replicate n (pos 0)) (combined_coefs ks forms) (length-replicate n (pos 0))
    (combined_columns n ks forms (recursion_from_All (λ (form : Form). length form.coefs ≡ n) forms long))

-- ---- multiples

module _ (n : ℕ) (k : ℤ) (coefs : List ℤ) (forms : List Form) where
  abbrev pub multiples : List ℤ
  multiples = scaled k (composed_coefs n coefs forms)

  pub length-multiples : All (λ form. length form.coefs ≡ n) forms → length multiples ≡ n
  length-multiples long = length-scaled k (composed_coefs n coefs forms) ∙ length-composed n coefs forms long

  pub get_or-multiples : (j : ℕ) → get_or multiples j (pos 0) ≡ k *ℤ dot coefs (entries_at j forms)
  get_or-multiples j = get_or-scaled k (composed_coefs n coefs forms) j ∙ ap (λ z. k *ℤ z) (get_or-composed n coefs forms j)

-- ---- sizes

sum_size : (x y : ℤ) → unsigned_abs (x +ℤ y) ≤ unsigned_abs x + unsigned_abs y
sum_size x y = omega (arith, ints)

product_size : (coef entry : ℤ) → unsigned_abs coef ≤ 2 → FitsForm entry → unsigned_abs (coef *ℤ entry) < 3 * 2 ^ 50
product_size coef entry small fits = rw (unsigned_abs-mul coef entry) (mul-lt (unsigned_abs coef) (unsigned_abs entry) 3 (2 ^ 50) (omega arith) fits)

dot_size : (coefs entries : List ℤ) → AllByRecursion (λ coef. unsigned_abs coef ≤ 2) coefs → AllByRecursion FitsForm entries
    → unsigned_abs (dot coefs entries) ≤ length coefs * (3 * 2 ^ 50)
dot_size [] entries small fit = omega arith
dot_size (coef ∷ coefs) [] small fit = omega arith
dot_size (coef ∷ coefs) (entry ∷ entries) small fit =
    let first = product_size coef entry small.0 fit.0 in
    let later = dot_size coefs entries small.1 fit.1 in
    omega (arith, sum_size (coef *ℤ entry) (dot coefs entries), first, later)

entry_fits : (form : Form) (j : ℕ) → IsFittingForm form → FitsForm (get_or form.coefs j (pos 0))
entry_fits form j fits =
    ⊎_elim (λ (inside : j < length form.coefs). All-get_or FitsForm form.coefs j (pos 0) inside fits.coefs)
    (λ (past : length form.coefs ≤ j). rw (get_or_past form.coefs j (pos 0) past) (lit< tt))
    (cases_lt j (length form.coefs))

entries_fit : (j : ℕ) (forms : List Form) → AllByRecursion IsFittingForm forms → AllByRecursion FitsForm (entries_at j forms)
entries_fit j [] fit = tt
entries_fit j (form ∷ forms) fit = (entry_fits form j fit.0, entries_fit j forms fit.1)

constants_fit : (forms : List Form) → AllByRecursion IsFittingForm forms → AllByRecursion FitsForm (constants_of forms)
constants_fit [] fit = tt
constants_fit (form ∷ forms) fit = (fit.0.constant, constants_fit forms fit.1)

module _ (n : ℕ) (forms : List Form) (coefs : List ℤ) (can : CanNegate n forms coefs) where
  sum_of_16 : (entries : List ℤ) → AllByRecursion FitsForm entries → unsigned_abs (dot coefs entries) ≤ 48 * 2 ^ 50
  sum_of_16 entries fit =
      let all = dot_size coefs entries (recursion_from_All (λ (coef : ℤ). unsigned_abs coef ≤ 2) coefs can.small) fit in
      omega (arith, all, can.few)

  -- an entry of the sum
  pub coef_size : (j : ℕ) → unsigned_abs (dot coefs (entries_at j forms)) < 2 ^ 56
  coef_size j = omega (arith, sum_of_16 (entries_at j forms) (entries_fit j forms (recursion_from_All IsFittingForm forms can.fit)))

  -- its constant, less the atom's
  pub constant_size : (constant : ℤ) → FitsForm constant → unsigned_abs (dot coefs (constants_of forms) +ℤ neg_ℤ constant) ≤ 49 * 2 ^ 50
  constant_size constant fits =
      omega (arith, ints, sum_of_16 (constants_of forms) (constants_fit forms (recursion_from_All IsFittingForm forms can.fit)), fits)
