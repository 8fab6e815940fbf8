-- How a list of indexes is told: by its runs, each a first and a last number.
use Rattle.std.specs.Prelude.{ℕ, suc, List, [], ◌∷◌, ◌++◌, codes, decimal, ◌==◌, if◌then◌else◌}
use Rattle.std.specs.List.{join_by}

-- A run before others takes the first of them in where that one starts with the next number.
abbrev pub with_run : ℕ → ℕ → List (ℕ × ℕ) → List (ℕ × ℕ)
with_run first last [] = (first, last) ∷ []
with_run first last (run ∷ more) = if run.0 == suc last then (first, run.1) ∷ more else (first, last) ∷ run ∷ more

-- The maximal runs of successive rising numbers, in the order of the list.
abbrev pub runs : List ℕ → List (ℕ × ℕ)
runs [] = []
runs (index ∷ indexes) = with_run index index (runs indexes)

-- A run of one is its number, a longer one its first and its last number with a dash between.
abbrev pub run_text : ℕ × ℕ → List ℕ
run_text run = if run.0 == run.1 then decimal run.0 else decimal run.0 ++ codes "-" ++ decimal run.1

-- The runs with a space between each two.
abbrev pub runs_text : List (ℕ × ℕ) → List ℕ
runs_text all = join_by run_text (codes " ") all

-- The runs of a list of indexes, or the word `none` for an empty list.
abbrev pub indexes_text : List ℕ → List ℕ
indexes_text [] = codes "none"
indexes_text (index ∷ indexes) = runs_text (runs (index ∷ indexes))
