-- Entries of lists, and entries that are made one after the other.
use Rattle.std.proofs.Common.{◌≡◌, ℕ, ◌+◌, ◌<◌, zero, suc, true, ℤ, pos, ◌+ℤ◌, ◌*ℤ◌, List, [], ◌∷◌, ◌++◌, length, drop, get_or, refl, ◌∙◌, append_assoc}
use Rattle.std.specs.List.{AllByRecursion}
use Rattle.std.proofs.lemmas.Bool.{and_parts}
use Rattle.std.proofs.lemmas.List.{drop_more}
use Rattle.lin_terms.specs.Vectors.{plus, scaled}
use Rattle.lin_terms.specs.Bounds.{fits_form, fit_form}

-- what holds of each entry and of the default holds at each place
pub get_or_all : {X : Type 0} (A : X → Type 0) (xs : List X) (i : ℕ) (d : X) → A d → AllByRecursion A xs → A (get_or xs i d)
get_or_all A [] i d default all = default
get_or_all A (x ∷ xs) zero d default all = all.0
get_or_all A (x ∷ xs) (suc i) d default all = get_or_all A xs i d default all.1

-- the entries that are left, with the next in front
pub sum-drop : (k : ℤ) (xs ys : List ℤ) (i : ℕ) → i < length xs → i < length ys
    → plus (drop i xs) (scaled k (drop i ys))
    ≡ (get_or xs i (pos 0) +ℤ (k *ℤ get_or ys i (pos 0))) ∷ plus (drop (i + 1) xs) (scaled k (drop (i + 1) ys))
sum-drop k xs ys i in_xs in_ys = rw (drop_more xs i (pos 0) in_xs, drop_more ys i (pos 0) in_ys) refl

pub scaled-drop : (k : ℤ) (xs : List ℤ) (i : ℕ) → i < length xs → scaled k (drop i xs) ≡ (k *ℤ get_or xs i (pos 0)) ∷ scaled k (drop (i + 1) xs)
scaled-drop k xs i in_xs = rw (drop_more xs i (pos 0) in_xs) refl

-- one more entry is made
pub moved : (made left after all : List ℤ) (entry : ℤ) → left ≡ entry ∷ after → made ++ left ≡ all → (made ++ entry ∷ []) ++ after ≡ all
moved made left after all entry is so_far = append_assoc made (entry ∷ []) after ∙ rw is at so_far

-- entries that fit still do without the first
pub fit_after : (left after : List ℤ) (entry : ℤ) → left ≡ entry ∷ after → fit_form left ≡ true → fit_form after ≡ true
fit_after left after entry is all = (and_parts (fits_form entry) (fit_form after) (rw is at all)).1
