-- Two justified verdicts are of one kind, and which one that is.
use Rattle.std.proofs.Common.{◌≡◌, inl, inr, refl}
use Rattle.c_ast.specs.Comparison.{Comparison, IsComparison}
use Rattle.pool_core.specs.declared.verdict.Verdict.{Verdict}
use Rattle.pool_core.specs.declared.verdict.Verdict.TheVariants as verdict
use Rattle.pool_core.specs.Justified.{IsJustified}
use Rattle.pool_core.specs.Kinds.{kind_of, IsDifferent, AreOfOneKind, HasDifference, DifferencesAreFound, CouplingsAreFound}
use Rattle.pool_core.proofs.Excluding.{difference_of, linear_not_different, not_different, not_undecided, linear_hidden, hidden}

pub are_of_one_kind : AreOfOneKind
are_of_one_kind subject (verdict.Equivalent c is) (verdict.Equivalent d js) good v w = inl refl
are_of_one_kind subject (verdict.Equivalent c is) (verdict.Different i x a b) good v w =
    absurd (not_different subject good c is v (difference_of subject good i x a b w))
are_of_one_kind subject (verdict.Equivalent c is) (verdict.Unknown samples alignments) good v w =
    inr (inr (hidden subject good c is samples alignments v w))
are_of_one_kind subject (verdict.Different i x a b) (verdict.Equivalent c is) good v w =
    absurd (not_different subject good c is w (difference_of subject good i x a b v))
are_of_one_kind subject (verdict.Different i x a b) (verdict.Different j y d e) good v w = inl refl
are_of_one_kind subject (verdict.Different i x a b) (verdict.Unknown samples alignments) good v w =
    absurd (not_undecided subject good samples alignments (difference_of subject good i x a b v) w)
are_of_one_kind subject (verdict.Unknown samples alignments) (verdict.Equivalent c is) good v w =
    inr (inl (hidden subject good c is samples alignments w v))
are_of_one_kind subject (verdict.Unknown samples alignments) (verdict.Different i x a b) good v w =
    absurd (not_undecided subject good samples alignments (difference_of subject good i x a b w) v)
are_of_one_kind subject (verdict.Unknown samples alignments) (verdict.Unknown others whys) good v w = inl refl

-- ---- completeness

differs : (subject : Comparison) (v : Verdict) → IsComparison subject → IsJustified subject v → kind_of v ≡ IsDifferent → HasDifference subject
differs subject (verdict.Equivalent c is) good v kind = cc
differs subject (verdict.Different i x a b) good v kind = difference_of subject good i x a b v
differs subject (verdict.Unknown samples alignments) good v kind = cc

found : (subject : Comparison) (v : Verdict) → IsComparison subject → IsJustified subject v → HasDifference subject → kind_of v ≡ IsDifferent
found subject (verdict.Equivalent c is) good v different = absurd (not_different subject good c is v different)
found subject (verdict.Different i x a b) good v different = refl
found subject (verdict.Unknown samples alignments) good v different = absurd (not_undecided subject good samples alignments different v)

pub differences_are_found : DifferencesAreFound
differences_are_found subject v good justified = (differs subject v good justified, found subject v good justified)

pub couplings_are_found : CouplingsAreFound
couplings_are_found subject (verdict.Equivalent c is) alignment good v named has = inl refl
couplings_are_found subject (verdict.Different i x a b) alignment good v named has =
    absurd (linear_not_different subject good alignment has.family named has.linear (difference_of subject good i x a b v))
couplings_are_found subject (verdict.Unknown samples alignments) alignment good v named has =
    inr (linear_hidden subject good alignment named has.family has.linear has.indexes has.pairs has.all.at has.candidates samples alignments v)
