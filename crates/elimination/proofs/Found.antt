-- The first element that passes a test, and its place.
use Rattle.std.proofs.Common.{◌≡◌, ℕ, suc, ◌+◌, Bool, true, false, cond, List, [], ◌∷◌, arith, refl, sym, ◌∙◌, subst, Option, Some, None}
use Rattle.std.specs.Prelude.{position}
use Rattle.std.specs.List.{position_from}
use Rattle.std.proofs.lemmas.Iterator.Adapters.{position_from-zero}

module _ {X : Type 0} (test : X → Bool) where
  -- what holds of the empty list, and still holds behind an element that fails, holds where none passes
  module _ (Q : List X → Type 0) (empty : Q []) (behind : (x : X) (xs : List X) → test x ≡ false → Q xs → Q (x ∷ xs)) where
    none_from : (i : ℕ) (xs : List X) → position_from test i xs ≡ None → Q xs
    none_from i [] e = empty
    none_from i (x ∷ xs) e = by_test (test x) refl e (none_from (i + 1) xs)
      where
        by_test : (t : Bool) → test x ≡ t → cond t (Some i) (position_from test (i + 1) xs) ≡ None
            → (position_from test (i + 1) xs ≡ None → Q xs) → Q (x ∷ xs)
        by_test true is e later = cc
        by_test false is e later = behind x xs is (later e)

    pub not_found : (xs : List X) → position test xs ≡ None → Q xs
    not_found xs e = none_from 0 xs (sym (position_from-zero test xs) ∙ e)

  -- what holds of a place in front that passes, and still holds behind an element that fails, holds of the first that passes
  module _ (Q : ℕ → List X → Type 0) (front : (x : X) (xs : List X) → test x ≡ true → Q 0 (x ∷ xs))
      (behind : (n : ℕ) (x : X) (xs : List X) → test x ≡ false → Q n xs → Q (suc n) (x ∷ xs)) where
    -- the place, where the first element's place is i
    record IsFoundAt (i at : ℕ) (xs : List X) : Type 0 where
      place : ℕ
      is : at ≡ i + place
      holds : Q place xs

    found_from : (i at : ℕ) (xs : List X) → position_from test i xs ≡ Some at → IsFoundAt i at xs
    found_from i at [] e = cc
    found_from i at (x ∷ xs) e = by_test (test x) refl e (found_from (i + 1) at xs)
      where
        same : (a b : ℕ) → ◌≡◌ {A = Option ℕ} (Some a) (Some b) → a ≡ b
        same a b is = cc

        by_test : (t : Bool) → test x ≡ t → cond t (Some i) (position_from test (i + 1) xs) ≡ Some at
            → (position_from test (i + 1) xs ≡ Some at → IsFoundAt (i + 1) at xs) → IsFoundAt i at (x ∷ xs)
        by_test true is e later = record {
          place = 0;
          is = let first = same i at e in omega (arith, first);
          holds = front x xs is;
        }
        by_test false is e later =
            let found = later e in
            record {
              place = suc found.place;
              is = omega (arith, found.is);
              holds = behind found.place x xs is found.holds;
            }

    pub found : (xs : List X) (at : ℕ) → position test xs ≡ Some at → Q at xs
    found xs at e =
        let first = found_from 0 at xs (sym (position_from-zero test xs) ∙ e) in
        let same : first.place ≡ at = omega (arith, first.is) in
        subst (λ n. Q n xs) same first.holds
