-- Marks.
use Rattle.std.proofs.Common.{◌≡◌, ℕ, zero, suc, ◌<◌, ◌⊎◌, inl, inr, Bool, true, false, List, [], ◌∷◌, ◌++◌, length, get_or, take, drop, replicate, refl, sym, ap, ◌∙◌, subst, arith}
use Rattle.std.specs.List.{AllZip}
use Rattle.std.proofs.lemmas.List.{append-nil, take_all}
use Rattle.std.proofs.Math.ListN.{drop_of_length-le}
use Rattle.lin_terms.specs.declared.row.Row.{Row}
use Rattle.houdini.specs.declared.failure.Failure.{Failure}
use Rattle.houdini.specs.Failures.{Marks, IsHit}

module _ (start : List Row) (failures : List Failure) where
  pub no_marks : (marks : List Bool) → Marks start failures marks marks
  no_marks marks number is = inl is

  pub more_marks : (first second third : List Bool) → Marks start failures first second → Marks start failures second third
      → Marks start failures first third
  more_marks first second third before after number is = by (after number is)
    where
      by : (get_or second number false ≡ true) ⊎ IsHit start failures number → (get_or first number false ≡ true) ⊎ IsHit start failures number
      by (inl old) = before number old
      by (inr hit) = inr hit

  pub one_mark : (first second third : List Bool) (place : ℕ) → Marks start failures first second → IsHit start failures place
      → ((number : ℕ) → get_or third number false ≡ true → (get_or second number false ≡ true) ⊎ (number ≡ place))
      → Marks start failures first third
  one_mark first second third place before hit set number is = by (set number is)
    where
      by : (get_or second number false ≡ true) ⊎ (number ≡ place) → (get_or first number false ≡ true) ⊎ IsHit start failures number
      by (inl old) = before number old
      by (inr here) = inr (subst (λ (n : ℕ). IsHit start failures n) (sym here) hit)

-- ---- which atoms are marked

module _ {A : Type 0} (P : A → Type 0) where
  abbrev HoldsIfMarked : A → Bool → Type 0
  HoldsIfMarked x mark = mark ≡ true → P x

  pub none_marked : (xs : List A) → AllZip HoldsIfMarked xs (replicate (length xs) false)
  none_marked [] = tt
  none_marked (x ∷ xs) = ((λ never. cc), none_marked xs)

  -- where each mark is at one of which P holds
  pub zip_marked : (xs : List A) (marks : List Bool) → length marks ≡ length xs
      → ((number : ℕ) (x : A) → get_or marks number false ≡ true → number < length xs → x ≡ get_or xs number x → P x)
      → AllZip HoldsIfMarked xs marks
  zip_marked [] [] long holds = tt
  zip_marked [] (mark ∷ marks) long holds = absurd (omega arith)
  zip_marked (x ∷ xs) [] long holds = absurd (omega arith)
  zip_marked (x ∷ xs) (mark ∷ marks) long holds = (
    (λ is. holds 0 x is (omega arith) refl),
    zip_marked xs marks (omega arith) (λ number y is below at. holds (suc number) y is (omega arith) at),
  )

pub replicated_false : (count number : ℕ) → get_or (replicate count false) number false ≡ false
replicated_false zero number = refl
replicated_false (suc count) zero = refl
replicated_false (suc count) (suc number) = replicated_false count number

-- the whole slice is written back
pub written_back : (count : ℕ) (old new : List Bool) → length new ≡ length old → count ≡ length old
    → take count (new ++ drop (length new) old) ≡ new
written_back count old new long is =
    let rest : drop (length new) old ≡ [] = drop_of_length-le old (omega arith) in
    ap (λ (xs : List Bool). take count (new ++ xs)) rest ∙ (ap (take count) (append-nil new) ∙ take_all count new (omega arith))
