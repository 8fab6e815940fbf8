-- When a verdict on two functions is justified.
use Rattle.std.specs.Prelude.{◌≡◌, ◌≢◌, ℕ, ◌<◌, ◌-◌, List, length, slice_get, All, AllPairs, Contains, IsSomeAnd, ℤ}
use Rattle.std.specs.List.{AllZip}
use Rattle.c_ast.specs.declared.trace.Pair.{Pair}
use Rattle.c_ast.specs.Comparison.{Comparison}
use Rattle.alignment.specs.Number.{IsAlignment}
use Rattle.relation.specs.Coupled.{Coupling, IsCoupled}
use Rattle.trace_pair.specs.Pairs.{input_at, IsPair, IsSkip}
use Rattle.pool_core.specs.declared.verdict.Why.{Why}
use Rattle.pool_core.specs.declared.verdict.SampleWhy.{SampleWhy}
use Rattle.pool_core.specs.declared.verdict.SampleWhy.TheVariants as sample
use Rattle.pool_core.specs.declared.verdict.Verdict.{Verdict}
use Rattle.pool_core.specs.declared.verdict.Verdict.TheVariants as verdict
use Rattle.pool_core.specs.Candidates.{IsOfCandidates}
use Rattle.pool_core.specs.Tried.{IsTried}

-- ---- samples

-- These pairs have the indexes, which are below the number of samples, and none of which comes twice.
pub record ArePairsAt (subject : Comparison) (indexes : List ℕ) (pairs : List Pair) : Type 0 where
  pub below : All (λ index. index < subject.settings.samples) indexes
  pub distinct : AllPairs (λ i j. i ≢ j) indexes
  pub are : AllZip (IsPair subject) indexes pairs

-- These are all pairs whose indexes are below the number of samples.
pub record AreAllPairs (subject : Comparison) (indexes : List ℕ) (pairs : List Pair) : Type 0 where
  pub at : ArePairsAt subject indexes pairs
  pub all : (index : ℕ) (pair : Pair) → index < subject.settings.samples → IsPair subject index pair
      → Contains pairs pair

-- Both runs on the sample's input return, with equal results.
pub record IsEqualPair (subject : Comparison) (index : ℕ) : Type 0 where
  pub pair : Pair
  pub is : IsPair subject index pair
  pub equal : pair.first.result ≡ pair.second.result

-- What is said of the sample is so.
abbrev pub IsSaid : Comparison → ℕ → SampleWhy → Type 0
IsSaid subject index sample.Equal = IsEqualPair subject index
IsSaid subject index (sample.Skipped skipped) = IsSkip subject index skipped

-- ---- verdicts

module _ (subject : Comparison) where
  -- The coupling is of the subject, and its family is of candidates of the pairs with these indexes.
  pub record ShowsEquivalence (coupled : Coupling) (indexes : List ℕ) : Type 0 where
    pub own : coupled.subject ≡ subject
    pub couples : IsCoupled coupled
    pub pairs : List Pair
    pub at : ArePairsAt subject indexes pairs
    pub candidates : IsOfCandidates subject coupled.alignment pairs coupled.family

  -- The sample with this index is a pair on this input, and the two results differ. So the input meets the condition.
  pub record ShowsDifference (index : ℕ) (input : List ℤ) (first second : ℤ) : Type 0 where
    pub below : index < subject.settings.samples
    pub input_is : input ≡ input_at subject index
    pub pair : Pair
    pub is_pair : IsPair subject index pair
    pub first_is : pair.first.result ≡ first
    pub second_is : pair.second.result ≡ second
    pub differ : first ≢ second

  -- What is said of each sample is so, and the reason of each of the twelve alignments is true of it, with the
  -- candidates of all pairs.
  pub record DecidesNothing (samples : List SampleWhy) (alignments : List Why) : Type 0 where
    pub as_many : length samples ≡ subject.settings.samples
    pub said : (index : ℕ) → index < subject.settings.samples
        → IsSomeAnd (slice_get samples index) (IsSaid subject index)
    pub twelve : length alignments ≡ 12
    pub indexes : List ℕ
    pub pairs : List Pair
    pub all : AreAllPairs subject indexes pairs
    pub tried : (alignment : ℕ) → IsAlignment alignment
        → IsSomeAnd (slice_get alignments (alignment - 1)) (IsTried subject alignment pairs)

  -- The verdict is justified.
  abbrev pub IsJustified : Verdict → Type 0
  IsJustified (verdict.Equivalent coupled indexes) = ShowsEquivalence coupled indexes
  IsJustified (verdict.Different index input first second) = ShowsDifference index input first second
  IsJustified (verdict.Unknown samples alignments) = DecidesNothing samples alignments
