-- Texts of small lists and answers, by computing.
use Rattle.std.proofs.Common.{◌≡◌, [], ◌∷◌, refl, pos, negsuc}
use Rattle.std.specs.Prelude.{codes}
use Rattle.c_ast.specs.declared.place.Side.TheVariants.{A, B, Pre}
use Rattle.graph_run.specs.declared.skip.Skip.TheVariants.{NotEnded, Wide, Unmet}
use Rattle.std.specs.Fmt.{digits}
use Rattle.report.specs.Indexes.{runs, indexes_text}
use Rattle.report.specs.Samples.{indexes_where, skip_of, sample_lines}
use Rattle.pool_core.specs.declared.verdict.SampleWhy.TheVariants.{Equal}
use Rattle.report.specs.Verdicts.{different_text}

runs-gap : runs (0 ∷ 1 ∷ 3 ∷ []) ≡ (0, 1) ∷ (3, 3) ∷ []
runs-gap = refl

runs-falling : runs (1 ∷ 0 ∷ []) ≡ (1, 1) ∷ (0, 0) ∷ []
runs-falling = refl

runs-twice : runs (4 ∷ 4 ∷ 5 ∷ 6 ∷ []) ≡ (4, 4) ∷ (4, 6) ∷ []
runs-twice = refl

indexes_text-none : indexes_text [] ≡ codes "none"
indexes_text-none = refl

indexes_text-gap : indexes_text (0 ∷ 1 ∷ 3 ∷ []) ≡ codes "0-1 3"
unfolding digits
indexes_text-gap = refl

indexes_text-falling : indexes_text (1 ∷ 0 ∷ []) ≡ codes "1 0"
unfolding digits
indexes_text-falling = refl

indexes_where-wide : indexes_where (skip_of A Wide) (Equal ∷ skip_of A Wide ∷ skip_of B Wide ∷ skip_of A NotEnded ∷ skip_of A Wide ∷ []) ≡ 1 ∷ 4 ∷ []
indexes_where-wide = refl

sample_lines-two : sample_lines (Equal ∷ Equal ∷ skip_of A Wide ∷ Equal ∷ skip_of A Wide ∷ []) ≡ codes "equal 0-1 3\nwide A 2 4\n"
unfolding digits
sample_lines-two = refl

sample_lines-none : sample_lines [] ≡ []
sample_lines-none = refl

sample_lines-order : sample_lines (skip_of B Wide ∷ skip_of B NotEnded ∷ skip_of A NotEnded ∷ []) ≡ codes "not-ended A 2\nnot-ended B 1\nwide B 0\n"
unfolding digits
sample_lines-order = refl

sample_lines-pre : sample_lines (skip_of Pre Unmet ∷ skip_of A Wide ∷ skip_of Pre Wide ∷ Equal ∷ []) ≡ codes "equal 3\nunmet pre 0\nwide pre 2\nwide A 1\n"
unfolding digits
sample_lines-pre = refl

different_text-two : different_text 7 (pos 3 ∷ negsuc 0 ∷ []) (pos 0) (negsuc 1) ≡ codes "different\nsample 7\ninput 3 -1\nA returns 0\nB returns -2\n"
unfolding digits
different_text-two = refl

different_text-none : different_text 0 [] (pos 7) (pos 8) ≡ codes "different\nsample 0\ninput\nA returns 7\nB returns 8\n"
unfolding digits
different_text-none = refl
