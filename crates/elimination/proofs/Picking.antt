-- The pivot, by its place.
use Rattle.std.proofs.Common.{◌≡◌, ℕ, suc, ◌+◌, true, false, List, ◌∷◌, ◌++◌, map, arith, refl, sym, ◌∙◌, ap, get_or, take, drop, Option, Some, None}
use Rattle.std.specs.Prelude.{position}
use Rattle.elimination.specs.Combination.{Combination}
use Rattle.elimination.specs.Column.{is_pivot, behind, pivot_of, reduced, without, lower_bounds, upper_bounds, pairs, projected_by, projected}
use Rattle.elimination.proofs.Found.{not_found, found}

none_picked_here : (j : ℕ) (row : Combination) (rows : List Combination) → is_pivot j row ≡ false → pivot_of j rows ≡ None → pivot_of j (row ∷ rows) ≡ None
none_picked_here j row rows fails later = rw fails (ap (behind row) later)

pub projected_pairs : (j : ℕ) (rows : List Combination) (place : Option ℕ) → place ≡ position (is_pivot j) rows → place ≡ None
    → projected j rows ≡ without j rows ++ pairs j (lower_bounds j rows) (upper_bounds j rows)
projected_pairs j rows place is none =
    ap (λ picked. projected_by j rows picked) (not_found (is_pivot j) (λ rs. pivot_of j rs ≡ None) refl (none_picked_here j) rows (sym is ∙ none))

-- the row at the place is picked, and the others stay in order
abbrev IsPickedAt : ℕ → ℕ → List Combination → Type 0
IsPickedAt j place rows = (d : Combination) → pivot_of j rows ≡ Some (get_or rows place d, take place rows ++ drop (suc place) rows)

picked_here : (j : ℕ) (row : Combination) (rows : List Combination) → is_pivot j row ≡ true → IsPickedAt j 0 (row ∷ rows)
picked_here j row rows is d = rw is refl

picked_later : (j place : ℕ) (row : Combination) (rows : List Combination) → is_pivot j row ≡ false → IsPickedAt j place rows
    → IsPickedAt j (suc place) (row ∷ rows)
picked_later j place row rows fails later d = rw fails (ap (behind row) (later d))

pub projected_reduced : (j : ℕ) (rows : List Combination) (pivot : Combination) (place : Option ℕ) (at : ℕ) → place ≡ position (is_pivot j) rows
    → place ≡ Some at
    → pivot ≡ get_or rows at pivot → projected j rows ≡ map (reduced j pivot) (take at rows ++ drop (at + 1) rows)
projected_reduced j rows pivot place at is some there =
    let next : suc at ≡ at + 1 = omega arith in
    ap (λ picked. projected_by j rows picked) (found (is_pivot j) (IsPickedAt j) (picked_here j) (picked_later j) rows at (sym is ∙ some) pivot)
    ∙ ap (λ (p : Combination). map (reduced j p) (take at rows ++ drop (suc at) rows)) (sym there)
    ∙ ap (λ n. map (reduced j pivot) (take at rows ++ drop n rows)) next
