-- Rows of a table, and the rows that are found in it.
use Rattle.std.proofs.Common.{◌≡◌, ℕ, Bool, true, false, cond, List, [], ◌∷◌, Option, Some, map, option_map, bytes_eq, refl}
use Rattle.std.specs.Prelude.{find}
use Rattle.std.specs.List.{list_all}
use Rattle.std.specs.Borrow.{Bor}
use Rattle.std.proofs.lemmas.Slice.Eq.{bytes_eq-Decides}
use Rattle.c_tokens.specs.declared.fixed.Fixed.{Fixed}
use Rattle.c_tokens.specs.Tables.{Row, seen}
use Rattle.c_tokens.proofs.Both.{and_first, and_second}

pub bytes_eq-same : (xs ys : List ℕ) → bytes_eq xs ys ≡ true → xs ≡ ys
bytes_eq-same xs ys e = (bytes_eq-Decides xs ys).0 e

pub bytes_eq-refl : (xs : List ℕ) → bytes_eq xs xs ≡ true
bytes_eq-refl xs = (bytes_eq-Decides xs xs).1 refl

-- a row that is found passes
pub found-passes : {X : Type 0} (p : X → Bool) (xs : List X) (x : X) → find p xs ≡ Some x → p x ≡ true
found-passes p [] x e = absurd cc
found-passes p (y ∷ xs) x e =
    elim (p y) as (λ b. p y ≡ b → cond b (Some y) (find p xs) ≡ Some x → p x ≡ true) [
      | true ↦ λ here got. let same : y ≡ x = cc in rw (← same) here
      | false ↦ λ here got. found-passes p xs x got
    ] refl e

-- what each row passes, a row that is found passes
pub found-all : {X : Type 0} (p q : X → Bool) (xs : List X) (x : X) → list_all q xs ≡ true → find p xs ≡ Some x → q x ≡ true
found-all p q [] x all e = absurd cc
found-all p q (y ∷ xs) x all e =
    elim (p y) as (λ b. cond b (Some y) (find p xs) ≡ Some x → q x ≡ true) [
      | true ↦ λ got. let same : y ≡ x = cc in rw (← same) (and_first (q y) (list_all q xs) all)
      | false ↦ λ got. found-all p q xs x (and_second (q y) (list_all q xs) all) got
    ] e

-- a search in the rows that the program has at hand
find-seen : (p : Row → Bool) (rows : List (Bor (List ℕ) × Option Fixed)) → option_map seen (find (λ row. p (seen row)) rows) ≡ find p (map seen rows)
find-seen p [] = refl
find-seen p (row ∷ rows) =
    elim (p (seen row)) as (λ b. option_map seen (cond b (Some row) (find (λ each. p (seen each)) rows)) ≡ cond b (Some (seen row)) (find p (map seen rows))) [
      | true ↦ refl
      | false ↦ find-seen p rows
    ]

-- a search in the rows of the program is one in the table that definitions see
pub find-table : (p : Row → Bool) (rows : List (Bor (List ℕ) × Option Fixed)) (found : Option (Bor (List ℕ) × Option Fixed)) (table : List Row)
    → found ≡ find (λ row. p (seen row)) rows → map seen rows ≡ table → option_map seen found ≡ find p table
find-table p rows found table e same = rw (e, ← same) (find-seen p rows)
