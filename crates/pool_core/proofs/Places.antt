-- Where the first element stands that passes a test.
use Rattle.std.proofs.Common.{◌≡◌, ℕ, ◌+◌, ◌<◌, Bool, true, false, ◌||◌, not, ltb, cond, zero, suc, List, [], ◌∷◌, length, Option, Some, None, refl, sym, ap, subst, ◌∙◌, arith}
use Rattle.std.specs.List.{slice_get, position, position_or_len, list_any}
use Rattle.std.specs.Option.{is_some, option_map, IfSome}
use Rattle.std.proofs.lemmas.Option.{none-some, same_Some, slice_get_within}
use Rattle.std.proofs.lemmas.Bool.Decides.{nat_tests}

module _ {X : Type 0} (p : X → Bool) where
  -- The first place in a longer list.
  cons_at : (b : Bool) (n l : ℕ) → cond (ltb (cond (not b) (1 + n) 0) (suc l)) (Some (cond (not b) (1 + n) 0)) None
      ≡ cond b (Some 0) (option_map suc (cond (ltb n l) (Some n) None))
  cons_at true n l = grind (arith, nat_tests)
  cons_at false n l = grind (arith, nat_tests)

  position-cons : (x : X) (xs : List X) → position p (x ∷ xs) ≡ cond (p x) (Some 0) (option_map suc (position p xs))
  position-cons x xs = cons_at (p x) (position_or_len p xs) (length xs)

  any_at : (b c : Bool) (o : Option ℕ) → is_some o ≡ c → is_some (cond b (Some 0) (option_map suc o)) ≡ (b || c)
  any_at true c o same = refl
  any_at false c None same = same
  any_at false c (Some k) same = same

  -- There is one exactly where some element passes.
  pub passes_somewhere : (xs : List X) → is_some (position p xs) ≡ list_any p xs
  passes_somewhere [] = refl
  passes_somewhere (x ∷ xs) = ap is_some (position-cons x xs) ∙ any_at (p x) (list_any p xs) (position p xs) (passes_somewhere xs)

  -- The element there passes.
  pub record IsAt (xs : List X) (k : ℕ) : Type 0 where
    pub element : X
    pub stands : slice_get xs k ≡ Some element
    pub passes : p element ≡ true

  at_cons : (b : Bool) (o : Option ℕ) (x : X) (xs : List X) (k : ℕ) → p x ≡ b → cond b (Some 0) (option_map suc o) ≡ Some k
      → ((j : ℕ) → o ≡ Some j → IsAt xs j) → IsAt (x ∷ xs) k
  at_cons true o x xs zero passes found later = record { element = x; stands = refl; passes = passes }
  at_cons true o x xs (suc k) passes found later = absurd (cc)
  at_cons false None x xs k fails found later = absurd (none-some k found)
  at_cons false (Some j) x xs zero fails found later = absurd (cc)
  at_cons false (Some j) x xs (suc k) fails found later =
      let same : j ≡ k = omega (arith, same_Some (suc j) (suc k) found) in
      let tail = later k (ap Some same) in
      record { element = tail.element; stands = tail.stands; passes = tail.passes }

  pub position_at : (xs : List X) (k : ℕ) → position p xs ≡ Some k → IsAt xs k
  position_at [] k found = absurd (none-some k found)
  position_at (x ∷ xs) k found =
      at_cons (p x) (position p xs) x xs k refl (sym (position-cons x xs) ∙ found) (position_at xs)

  -- It is within the list.
  pub position_within : (xs : List X) (k : ℕ) → position p xs ≡ Some k → k < length xs
  position_within xs k found = let at = position_at xs k found in slice_get_within xs k at.element at.stands

  pub places_within : (xs : List X) → IfSome (position p xs) (λ k. k < length xs)
  places_within xs = each_within (position p xs) (position_within xs)
    where
      each_within : (o : Option ℕ) → ((k : ℕ) → o ≡ Some k → k < length xs) → IfSome o (λ k. k < length xs)
      each_within None within = tt
      each_within (Some k) within = within k refl

  -- What is told of the first place is told of what equals it.
  pub some_of : (xs : List X) (o : Option ℕ) → o ≡ position p xs → is_some o ≡ list_any p xs
  some_of xs o same = ap is_some same ∙ passes_somewhere xs

  pub within_of : (xs : List X) (o : Option ℕ) → o ≡ position p xs → IfSome o (λ k. k < length xs)
  within_of xs o same = subst (λ (at : Option ℕ). IfSome at (λ k. k < length xs)) (sym same) (places_within xs)
