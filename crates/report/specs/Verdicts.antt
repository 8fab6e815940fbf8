-- The texts of verdicts.
use Rattle.std.specs.Prelude.{ℕ, suc, ℤ, List, [], ◌∷◌, ◌++◌, flat_map, codes, decimal}
use Rattle.std.specs.Fmt.{signed_decimal}
use Rattle.c_ast.specs.Comparison.{Comparison}
use Rattle.relation.specs.Coupled.{Coupling}
use Rattle.pool_core.specs.declared.verdict.Why.{Why}
use Rattle.pool_core.specs.declared.verdict.SampleWhy.{SampleWhy}
use Rattle.pool_core.specs.declared.verdict.Verdict.{Verdict}
use Rattle.pool_core.specs.declared.verdict.Verdict.TheVariants.{Equivalent, Different, Unknown}
use Rattle.report.specs.Indexes.{indexes_text}
use Rattle.report.specs.Samples.{sample_lines}
use Rattle.report.specs.Families.{family_text}
use Rattle.report.specs.Limits.{why_text}

-- The alignment, the pairs' indexes, and the family.
abbrev pub equivalent_text : Comparison → Coupling → List ℕ → List ℕ
equivalent_text subject coupled indexes =
    codes "equivalent\nalignment " ++ (decimal coupled.alignment ++ (codes "\npairs " ++ (indexes_text indexes
    ++ (codes "\n" ++ family_text subject coupled.family))))

-- The values, each after a space.
abbrev pub values_text : List ℤ → List ℕ
values_text values = flat_map (λ value. codes " " ++ signed_decimal value) values

-- The sample, its input, and what the two functions return on it.
abbrev pub different_text : ℕ → List ℤ → ℤ → ℤ → List ℕ
different_text index input first second =
    codes "different\nsample " ++ (decimal index ++ (codes "\ninput" ++ (values_text input
    ++ (codes "\nA returns " ++ (signed_decimal first
    ++ (codes "\nB returns " ++ (signed_decimal second ++ codes "\n")))))))

-- The lines of an alignment and its reason.
abbrev pub reason_text : Comparison → ℕ → Why → List ℕ
reason_text subject number why = codes "alignment " ++ (decimal number ++ (codes " " ++ why_text subject why))

-- The lines of the alignments from this number on.
abbrev pub reasons_text : Comparison → ℕ → List Why → List ℕ
reasons_text subject number [] = []
reasons_text subject number (why ∷ alignments) =
    reason_text subject number why ++ reasons_text subject (suc number) alignments

-- The lines of the samples, and then those of the alignments, from the first one on.
abbrev pub undecided_text : Comparison → List SampleWhy → List Why → List ℕ
undecided_text subject samples alignments =
    codes "unknown\n" ++ (sample_lines samples ++ reasons_text subject 1 alignments)

-- The lines that tell the verdict on the two functions.
abbrev pub verdict_text : Comparison → Verdict → List ℕ
verdict_text subject (Equivalent coupled indexes) = equivalent_text subject coupled indexes
verdict_text subject (Different index input first second) = different_text index input first second
verdict_text subject (Unknown samples alignments) = undecided_text subject samples alignments
