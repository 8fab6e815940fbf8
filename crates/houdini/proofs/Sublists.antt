-- Lists with some elements of others, in their order.
use Rattle.std.proofs.Common.{◌≡◌, ℕ, zero, suc, ◌≤◌, ◌⊎◌, inl, inr, List, [], ◌∷◌, length, refl, sym, ◌∙◌, ap, subst, arith}
use Rattle.std.specs.Prelude.{Contains, All, remove, slice_get, Some}
use Rattle.std.specs.List.{AllByRecursion}
use Rattle.std.proofs.lemmas.List.Elements.{recursion_from_All, All-from_recursion}
use Rattle.houdini.specs.Within.{IsSublist}
use Rattle.houdini.specs.Striking.{LeavesOut}

module _ {A : Type 0} where
  pub sublist_of_itself : (xs : List A) → IsSublist xs xs
  sublist_of_itself [] = tt
  sublist_of_itself (x ∷ xs) = inl (refl, sublist_of_itself xs)

  pub sublist_goes_on : (xs ys zs : List A) → IsSublist xs ys → IsSublist ys zs → IsSublist xs zs
  sublist_goes_on [] ys zs first second = tt
  sublist_goes_on (x ∷ xs) [] zs first second = absurd first
  sublist_goes_on (x ∷ xs) (y ∷ ys) [] first second = absurd second
  sublist_goes_on (x ∷ xs) (y ∷ ys) (z ∷ zs) (inl first) (inl second) =
      inl (first.0 ∙ second.0, sublist_goes_on xs ys zs first.1 second.1)
  sublist_goes_on (x ∷ xs) (y ∷ ys) (z ∷ zs) (inr first) (inl second) = inr (sublist_goes_on (x ∷ xs) ys zs first second.1)
  sublist_goes_on (x ∷ xs) (y ∷ ys) (z ∷ zs) first (inr second) = inr (sublist_goes_on (x ∷ xs) (y ∷ ys) zs first second)

  pub sublist_is_no_longer : (xs ys : List A) → IsSublist xs ys → length xs ≤ length ys
  sublist_is_no_longer [] ys sub = omega arith
  sublist_is_no_longer (x ∷ xs) [] sub = absurd sub
  sublist_is_no_longer (x ∷ xs) (y ∷ ys) (inl sub) = omega (arith, sublist_is_no_longer xs ys sub.1)
  sublist_is_no_longer (x ∷ xs) (y ∷ ys) (inr sub) = omega (arith, sublist_is_no_longer (x ∷ xs) ys sub)

  -- A sublist that is as long is the same.
  pub as_long_is_same : (xs ys : List A) → IsSublist xs ys → length ys ≤ length xs → xs ≡ ys
  as_long_is_same [] [] sub long = refl
  as_long_is_same [] (y ∷ ys) sub long = absurd (omega (arith, long))
  as_long_is_same (x ∷ xs) [] sub long = absurd sub
  as_long_is_same (x ∷ xs) (y ∷ ys) (inl sub) long =
      let later : xs ≡ ys = as_long_is_same xs ys sub.1 (omega (arith, long)) in
      ap (λ (z : A). z ∷ xs) sub.0 ∙ ap (λ (zs : List A). y ∷ zs) later
  as_long_is_same (x ∷ xs) (y ∷ ys) (inr sub) long = absurd (omega (arith, long, sublist_is_no_longer (x ∷ xs) ys sub))

  pub sublists_of_each_other : (xs ys : List A) → IsSublist xs ys → IsSublist ys xs → xs ≡ ys
  sublists_of_each_other xs ys first second = as_long_is_same xs ys first (sublist_is_no_longer ys xs second)

  here : (x : A) (xs : List A) → Contains (x ∷ xs) x
  here x xs = (0, omega arith, refl)

  behind_first : (y : A) (ys : List A) (x : A) → Contains ys x → Contains (y ∷ ys) x
  behind_first y ys x found = (suc found.0, omega (arith, found.1), found.2)

  -- an element of a list is its first, or one of those behind it
  first_or_behind : (y : A) (ys : List A) (x : A) → Contains (y ∷ ys) x → (y ≡ x) ⊎ Contains ys x
  first_or_behind y ys x (zero, inside, is) = inl is
  first_or_behind y ys x (suc k, inside, is) = inr (k, omega (arith, inside), is)

  -- what is the first of the one list, or in the rest, is in the other
  first_too : (z : A) (xs : List A) (y : A) (ys : List A) (x : A) → z ≡ y → (Contains xs x → Contains ys x)
      → (z ≡ x) ⊎ Contains xs x → Contains (y ∷ ys) x
  first_too z xs y ys x same later (inl is) = subst (λ (w : A). Contains (y ∷ ys) w) (sym same ∙ is) (here y ys)
  first_too z xs y ys x same later (inr found) = behind_first y ys x (later found)

  pub sublist_contains : (xs ys : List A) (x : A) → IsSublist xs ys → Contains xs x → Contains ys x
  sublist_contains [] ys x sub found = absurd (omega (arith, found.1))
  sublist_contains (z ∷ xs) [] x sub found = absurd sub
  sublist_contains (z ∷ xs) (y ∷ ys) x (inl sub) found =
      first_too z xs y ys x sub.0 (sublist_contains xs ys x sub.1) (first_or_behind z xs x found)
  sublist_contains (z ∷ xs) (y ∷ ys) x (inr sub) found = behind_first y ys x (sublist_contains (z ∷ xs) ys x sub found)

  module _ (P : A → Type 0) where
    each_of_sublist : (xs ys : List A) → IsSublist xs ys → AllByRecursion P ys → AllByRecursion P xs
    each_of_sublist [] ys sub each = tt
    each_of_sublist (x ∷ xs) [] sub each = absurd sub
    each_of_sublist (x ∷ xs) (y ∷ ys) (inl sub) each = (subst P (sym sub.0) each.0, each_of_sublist xs ys sub.1 each.1)
    each_of_sublist (x ∷ xs) (y ∷ ys) (inr sub) each = each_of_sublist (x ∷ xs) ys sub each.1

    pub all_of_sublist : (xs ys : List A) → IsSublist xs ys → All P ys → All P xs
    all_of_sublist xs ys sub all = All-from_recursion P xs (each_of_sublist xs ys sub (recursion_from_All P ys all))

    -- What is left is a sublist.
    pub left_is_sublist : (old new : List A) → LeavesOut P old new → IsSublist new old
    left_is_sublist [] [] left = tt
    left_is_sublist [] (y ∷ new) left = absurd left
    left_is_sublist (x ∷ old) [] left = tt
    left_is_sublist (x ∷ old) (y ∷ new) (inl left) = inl (sym left.0, left_is_sublist old new left.1)
    left_is_sublist (x ∷ old) (y ∷ new) (inr left) = inr (left_is_sublist old (y ∷ new) left.1)

    -- A sublist of which P holds is one of what is left.
    pub sublist_of_left : (xs old new : List A) → IsSublist xs old → AllByRecursion P xs → LeavesOut P old new → IsSublist xs new
    sublist_of_left [] old new sub each left = tt
    sublist_of_left (x ∷ xs) [] new sub each left = absurd sub
    sublist_of_left (x ∷ xs) (y ∷ old) [] (inl sub) each left = absurd (left.0 (subst P sub.0 each.0))
    sublist_of_left (x ∷ xs) (y ∷ old) [] (inr sub) each left = sublist_of_left (x ∷ xs) old [] sub each left.1
    sublist_of_left (x ∷ xs) (y ∷ old) (z ∷ new) (inl sub) each (inl left) =
        inl (sub.0 ∙ left.0, sublist_of_left xs old new sub.1 each.1 left.1)
    sublist_of_left (x ∷ xs) (y ∷ old) (z ∷ new) (inl sub) each (inr left) = absurd (left.0 (subst P sub.0 each.0))
    sublist_of_left (x ∷ xs) (y ∷ old) (z ∷ new) (inr sub) each (inl left) =
        inr (sublist_of_left (x ∷ xs) old new sub each left.1)
    sublist_of_left (x ∷ xs) (y ∷ old) (z ∷ new) (inr sub) each (inr left) = sublist_of_left (x ∷ xs) old (z ∷ new) sub each left.1

    pub left_itself : (xs : List A) → LeavesOut P xs xs
    left_itself [] = tt
    left_itself (x ∷ xs) = inl (refl, left_itself xs)

    -- one element less, of which P fails
    skips : (x : A) (xs : List A) → ¬ P x → LeavesOut P (x ∷ xs) xs
    skips x [] fails = (fails, tt)
    skips x (y ∷ xs) fails = inr (fails, left_itself (y ∷ xs))

    pub leaves_out_one : (xs : List A) (i : ℕ) (x : A) → slice_get xs i ≡ Some x → ¬ P x → LeavesOut P xs (remove xs i)
    leaves_out_one [] i x is fails = absurd cc
    leaves_out_one (y ∷ xs) zero x is fails =
        let same : y ≡ x = cc in skips y xs (λ (p : P y). fails (subst P same p))
    leaves_out_one (y ∷ xs) (suc i) x is fails = inl (refl, leaves_out_one xs i x is fails)
