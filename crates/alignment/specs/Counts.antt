-- How many segments each side takes.
use Rattle.std.specs.Prelude.{ℕ, suc, ◌-◌, ◌==◌, nat_lt, if◌then◌else◌, List, [], ◌∷◌, slice_index_or}
use Rattle.c_ast.specs.declared.place.Place.{Place}
use Rattle.c_ast.specs.declared.place.Place.TheVariants as place

-- The four counts p, q, a and b of an alignment.
abbrev pub Counts : Type 0
Counts = ℕ × ℕ × ℕ × ℕ

-- The counts of the twelve alignments, in the order of their numbers.
unfoldable pub table : List Counts
table =
    (0, 0, 1, 1) ∷ (1, 0, 1, 1) ∷ (0, 1, 1, 1) ∷ (2, 0, 1, 1) ∷ (0, 2, 1, 1) ∷ (1, 1, 1, 1) ∷ (0, 0, 2, 1)
    ∷ (0, 0, 1, 2)
    ∷ (1, 0, 2, 1) ∷ (0, 1, 1, 2) ∷ (0, 0, 3, 1) ∷ (0, 0, 1, 3) ∷ []

-- The counts of the alignment with this number, from 1 on.
abbrev pub counts_of : ℕ → Counts
counts_of number = slice_index_or table (number - 1) (0, 0, 0, 0)

-- At one mark the sides take a and b segments. At different marks the side with the lower one takes a segment, and the
-- other side none.
abbrev pub at_marks : Counts → ℕ → ℕ → ℕ × ℕ
at_marks counts j k = if j == k then (counts.2, counts.3) else (if nat_lt j k then (1, 0) else (0, 1))

-- How many segments the sides take at the node of these places, side A's first.
abbrev pub counts_at : Counts → Place → Place → ℕ × ℕ
counts_at counts place.Entry place.Entry = (suc counts.0, suc counts.1)
counts_at counts (place.Mark j) (place.Mark k) = at_marks counts j k
counts_at counts place.Exit place.Exit = (0, 0)
counts_at counts place.Exit place.Entry = (0, 1)
counts_at counts place.Exit (place.Mark k) = (0, 1)
counts_at counts place.Entry place.Exit = (1, 0)
counts_at counts (place.Mark j) place.Exit = (1, 0)
-- Sides that move together never stand at these two: no segment ends at the entry.
counts_at counts place.Entry (place.Mark k) = (1, 0)
counts_at counts (place.Mark j) place.Entry = (0, 1)
