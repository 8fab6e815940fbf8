-- How it is told what came of the samples: equal results, or a skip.
use Rattle.std.specs.Prelude.{ℕ, suc, Bool, true, false, ◌&&◌, List, [], ◌∷◌, ◌++◌, codes, flat_map, if◌then◌else◌}
use Rattle.c_ast.specs.declared.place.Side.{Side}
use Rattle.c_ast.specs.declared.place.Side.TheVariants.{A, B, Pre}
use Rattle.graph_run.specs.declared.skip.Skip.{Skip}
use Rattle.graph_run.specs.declared.skip.Skip.TheVariants.{NotEnded, Wide, Unmet, Memory}
use Rattle.trace_pair.specs.Pairs.{IsCauseOf}
use Rattle.pool_core.specs.declared.verdict.SampleWhy.{SampleWhy}
use Rattle.pool_core.specs.declared.verdict.SampleWhy.TheVariants.{Equal, Skipped}
use Rattle.report.specs.Indexes.{indexes_text}

-- The cause of a skip is one of its side's: of the condition it is `Wide` or `Unmet`, and of a run `NotEnded` or
-- `Wide`.
abbrev pub IsKeptSample : SampleWhy → Type 0
IsKeptSample Equal = Unit {0}
IsKeptSample (Skipped skipped) = IsCauseOf skipped.side skipped.why

-- Whether the sides are the same.
abbrev pub is_side : Side → Side → Bool
is_side A A = true
is_side B B = true
is_side Pre Pre = true
is_side _ _ = false

-- Whether the causes are the same.
abbrev pub is_why : Skip → Skip → Bool
is_why NotEnded NotEnded = true
is_why Wide Wide = true
is_why Unmet Unmet = true
is_why Memory Memory = true
is_why _ _ = false

-- Whether the sample is this one: equal results, or a skip of the side for the cause.
abbrev pub is_same : SampleWhy → SampleWhy → Bool
is_same Equal Equal = true
is_same (Skipped skipped) (Skipped other) = is_side skipped.side other.side && is_why skipped.why other.why
is_same Equal (Skipped other) = false
is_same (Skipped skipped) Equal = false

-- The indexes of the samples that are this one, where the first of them has the given index.
abbrev pub indexes_from : ℕ → SampleWhy → List SampleWhy → List ℕ
indexes_from index cause [] = []
indexes_from index cause (sample ∷ samples) =
    if is_same sample cause then index ∷ indexes_from (suc index) cause samples
    else indexes_from (suc index) cause samples

-- The indexes of the samples that are this one, from 0.
abbrev pub indexes_where : SampleWhy → List SampleWhy → List ℕ
indexes_where cause samples = indexes_from 0 cause samples

-- The skip of the side for the cause.
abbrev pub skip_of : Side → Skip → SampleWhy
skip_of side why = Skipped (record { side = side; why = why })

-- What may come of a sample, with the words that tell it, in the order of the lines.
abbrev pub causes : List (SampleWhy × List ℕ)
causes =
    (Equal, codes "equal")
    ∷ (skip_of Pre Unmet, codes "unmet pre")
    ∷ (skip_of Pre Wide, codes "wide pre")
    ∷ (skip_of A NotEnded, codes "not-ended A")
    ∷ (skip_of A Wide, codes "wide A")
    ∷ (skip_of B NotEnded, codes "not-ended B")
    ∷ (skip_of B Wide, codes "wide B")
    ∷ []

-- The words and the indexes, where there are any.
abbrev pub index_line : List ℕ → List ℕ → List ℕ
index_line words [] = []
index_line words (index ∷ indexes) = words ++ (codes " " ++ (indexes_text (index ∷ indexes) ++ codes "\n"))

-- The line of the samples that have the cause.
abbrev pub sample_line : List ℕ → SampleWhy → List SampleWhy → List ℕ
sample_line words cause samples = index_line words (indexes_where cause samples)

-- The samples' lines, one for each cause that has an index.
abbrev pub sample_lines : List SampleWhy → List ℕ
sample_lines samples = flat_map (λ row. sample_line row.1 row.0 samples) causes
