-- The rows that are left where one column is eliminated: by an equality (Gauss), or else by adding each lower bound to
-- each upper bound (Fourier, Motzkin).
use Rattle.std.specs.Prelude.{ℕ, Bool, ◌&&◌, not, if◌then◌else◌, neg_ℤ, ◌*ℤ◌, List, [], ◌∷◌, ◌++◌, map, filter, flat_map, Option, Some, None}
use Rattle.elimination.specs.Combination.{Combination, entry, is_zero, is_positive, is_negative, sign, size, combined}

-- ---- by an equality

-- Whether the row is an equality that has column j.
abbrev pub is_pivot : ℕ → Combination → Bool
is_pivot j row = row.row.equality && not (is_zero (entry j row))

-- a pivot of later rows, with one more row in front of the others
abbrev pub behind : Combination → Option (Combination × List Combination) → Option (Combination × List Combination)
behind row None = None
behind row (Some (pivot, others)) = Some (pivot, row ∷ others)

-- the first pivot, and the other rows in order
abbrev pub pivot_of : ℕ → List Combination → Option (Combination × List Combination)
pivot_of j [] = None
pivot_of j (row ∷ rows) = if is_pivot j row then Some (row, rows) else behind row (pivot_of j rows)

-- the row without column j: the pivot is an equality, so it may be taken any number of times
abbrev pub reduced : ℕ → Combination → Combination → Combination
reduced j pivot row =
    if is_zero (entry j row) then row
    else combined (size (entry j pivot)) row (neg_ℤ (sign (entry j pivot) *ℤ entry j row)) pivot

-- ---- by pairs

-- the rows without column j
abbrev pub without : ℕ → List Combination → List Combination
without j rows = filter (λ row. is_zero (entry j row)) rows

-- the rows that bound variable j from below
abbrev pub lower_bounds : ℕ → List Combination → List Combination
lower_bounds j rows = filter (λ row. is_positive (entry j row)) rows

-- the rows that bound it from above
abbrev pub upper_bounds : ℕ → List Combination → List Combination
upper_bounds j rows = filter (λ row. is_negative (entry j row)) rows

-- a lower and an upper bound, each taken so often that column j vanishes from their sum
abbrev pub paired : ℕ → Combination → Combination → Combination
paired j lower upper = combined (size (entry j upper)) lower (entry j lower) upper

-- each lower bound with each upper bound, in order
abbrev pub pairs : ℕ → List Combination → List Combination → List Combination
pairs j lowers uppers = flat_map (λ lower. map (paired j lower) uppers) lowers

-- ---- both

-- the rows without column j, where this pivot and the other rows were found, or no pivot
abbrev pub projected_by : ℕ → List Combination → Option (Combination × List Combination) → List Combination
projected_by j rows None = without j rows ++ pairs j (lower_bounds j rows) (upper_bounds j rows)
projected_by j rows (Some (pivot, others)) = map (reduced j pivot) others

-- the rows without column j, in the order in which they join a new list
abbrev pub projected : ℕ → List Combination → List Combination
projected j rows = projected_by j rows (pivot_of j rows)
