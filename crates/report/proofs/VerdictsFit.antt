-- A justified verdict can be told of the two functions.
use Rattle.std.proofs.Common.{◌≡◌, ℕ, suc, ◌<◌, ◌-◌, List, [], ◌∷◌, length, Option, Some, None, subst, arith}
use Rattle.std.specs.Prelude.{All, IsSomeAnd, slice_get}
use Rattle.std.proofs.lemmas.List.Elements.{All-nil, All-cons}
use Rattle.c_ast.specs.declared.trace.Pair.{Pair}
use Rattle.c_ast.specs.Comparison.{Comparison, IsComparison}
use Rattle.relation.specs.Coupled.{Coupling, IsLinearUnder}
use Rattle.pool_core.specs.declared.verdict.Why.{Why}
use Rattle.pool_core.specs.declared.verdict.Why.TheVariants as why
use Rattle.pool_core.specs.declared.verdict.SampleWhy.{SampleWhy}
use Rattle.pool_core.specs.declared.verdict.SampleWhy.TheVariants as sample
use Rattle.pool_core.specs.declared.verdict.Verdict.{Verdict}
use Rattle.pool_core.specs.declared.verdict.Verdict.TheVariants as verdict
use Rattle.pool_core.specs.Tried.{IsTried}
use Rattle.pool_core.specs.Justified.{IsSaid, ShowsEquivalence, DecidesNothing, IsJustified}
use Rattle.report.specs.Samples.{IsKeptSample}
use Rattle.report.specs.Fits.{FitsFamily, HasFittingLeft, FitsWhy, FitsEquivalent, FitsUnknown, FitsSubject}
use Rattle.report.proofs.Widths.{family_fits}
use Rattle.report.proofs.LeftFits.{FitsBoth, pairs_fit, drawn_has_shape}
use Rattle.report.proofs.ItemsKept.{skip_is_kept, reason_is_kept}

-- What holds of the element at each place holds of all.
all_at : {A : Type 0} (P : A → Type 0) (xs : List A) → ((i : ℕ) → i < length xs → IsSomeAnd (slice_get xs i) P) → All P xs
all_at P [] each = All-nil P
all_at P (x ∷ xs) each =
    All-cons P x xs (each 0 (omega arith)) (all_at P xs (λ i inside. each (suc i) (omega (arith, inside))))

some_changed : {A : Type 0} (P Q : A → Type 0) (found : Option A) → ((x : A) → P x → Q x) → IsSomeAnd found P → IsSomeAnd found Q
some_changed P Q None change some = absurd some
some_changed P Q (Some x) change some = change x some

module _ (subject : Comparison) (formed : IsComparison subject) where
  -- ---- equivalent

  linear_fits : (c : Coupling) → c.subject ≡ subject → IsLinearUnder c.subject c.alignment c.family → FitsFamily subject c.family
  linear_fits c own linear =
      let here = subst (λ (s : Comparison). IsLinearUnder s c.alignment c.family) own linear in
      family_fits subject formed c.alignment here.first here.second here.product c.family here.is_product here.linear.over.shape

  equivalent_fits : (coupled : Coupling) (indexes : List ℕ) → ShowsEquivalence subject coupled indexes → FitsEquivalent subject coupled
  equivalent_fits coupled indexes shows = record {
    own = shows.own;
    named = shows.couples.named;
    family = linear_fits coupled shows.own shows.couples.linear;
  }

  -- ---- unknown

  left_fits : (alignment : ℕ) (pairs : List Pair) → All (FitsBoth subject formed) pairs → (reason : Why) → IsTried subject alignment pairs reason
      → HasFittingLeft subject reason
  left_fits alignment pairs fit why.NoCoupling tried = tt
  left_fits alignment pairs fit (why.Product limit) tried = tt
  left_fits alignment pairs fit (why.AtObligation obligation left limit) tried =
      let under = tried.is_product in
      family_fits subject formed alignment under.first under.second tried.product left under.of_graphs
      (drawn_has_shape subject formed alignment pairs fit under.first under.second under.of_graphs.graphs tried.product left under.of_graphs tried.nodes
      tried.candidates.drawn)

  reason_fits : (alignment : ℕ) (pairs : List Pair) → All (FitsBoth subject formed) pairs → (reason : Why) → IsTried subject alignment pairs reason
      → FitsWhy subject reason
  reason_fits alignment pairs fit reason tried = record {
    kept = reason_is_kept subject alignment pairs reason tried;
    left = left_fits alignment pairs fit reason tried;
  }

  said_is_kept : (index : ℕ) (said : SampleWhy) → IsSaid subject index said → IsKeptSample said
  said_is_kept index sample.Equal is = tt
  said_is_kept index (sample.Skipped skipped) is = skip_is_kept subject index skipped is

  -- The reason at each place is true of the alignment there, which counts from 1.
  tried_at : {samples : List SampleWhy} (alignments : List Why) (nothing : DecidesNothing subject samples alignments) (index : ℕ)
      → index < length alignments → IsSomeAnd (slice_get alignments index) (IsTried subject (suc index) nothing.pairs)
  tried_at alignments nothing index inside =
      let back : suc index - 1 ≡ index = omega arith in
      subst (λ (place : ℕ). IsSomeAnd (slice_get alignments place) (IsTried subject (suc index) nothing.pairs)) back
      (nothing.tried (suc index) (record { least = omega arith; most = omega (arith, inside, nothing.twelve) }))

  unknown_fits : (samples : List SampleWhy) (alignments : List Why) → DecidesNothing subject samples alignments
      → FitsUnknown subject samples alignments
  unknown_fits samples alignments nothing = record {
    as_many = nothing.as_many;
    samples_kept = all_at IsKeptSample samples (λ index inside.
        some_changed (IsSaid subject index) IsKeptSample (slice_get samples index) (said_is_kept index)
        (nothing.said index (subst (λ (n : ℕ). index < n) nothing.as_many inside)));
    twelve = nothing.twelve;
    reasons = all_at (FitsWhy subject) alignments (λ index inside.
        some_changed (IsTried subject (suc index) nothing.pairs) (FitsWhy subject) (slice_get alignments index)
        (reason_fits (suc index) nothing.pairs (pairs_fit subject formed nothing.indexes nothing.pairs nothing.all.at.are))
        (tried_at alignments nothing index inside));
  }

pub verdict_fits : (subject : Comparison) (justified : Verdict) → IsComparison subject → IsJustified subject justified → FitsSubject subject justified
verdict_fits subject (verdict.Equivalent coupled indexes) formed shows = equivalent_fits subject formed coupled indexes shows
verdict_fits subject (verdict.Different index input first second) formed shows = tt
verdict_fits subject (verdict.Unknown samples alignments) formed nothing = unknown_fits subject formed samples alignments nothing
