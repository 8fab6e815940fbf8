-- Laws of runs, of samples, and of the texts of verdicts.
use Rattle.std.specs.Prelude.{◌≡◌, ◌≢◌, ◌↔◌, ℕ, zero, suc, ◌-◌, ◌<◌, ◌≤◌, List, [], ◌∷◌, length, All, Contains, flat_map, slice_get, Some}
use Rattle.pool_core.specs.declared.verdict.SampleWhy.{SampleWhy}
use Rattle.report.specs.Indexes.{runs}
use Rattle.report.specs.Samples.{IsKeptSample, indexes_where, causes}

-- As many successive rising numbers, from the first one on.
abbrev pub rising : ℕ → ℕ → List ℕ
rising first zero = []
rising first (suc count) = first ∷ rising (suc first) count

-- The numbers of a run: first, first + 1, .., last.
abbrev pub numbers_of : ℕ × ℕ → List ℕ
numbers_of run = rising run.0 (suc run.1 - run.0)

-- No run goes on from the one before it.
abbrev pub AreApart : List (ℕ × ℕ) → Type 0
AreApart [] = Unit {0}
AreApart (run ∷ []) = Unit {0}
AreApart (run ∷ next ∷ more) = (next.0 ≢ suc run.1) × AreApart (next ∷ more)

-- The runs, written out one after the other, are the list, and none can be longer.
pub record AreRunsOf (indexes : List ℕ) (all : List (ℕ × ℕ)) : Type 0 where
  pub written : flat_map numbers_of all ≡ indexes
  pub apart : AreApart all
  pub rising : All (λ run. run.0 ≤ run.1) all

-- Every list has its runs.
abbrev pub HasRuns : Type 0
HasRuns = (indexes : List ℕ) → AreRunsOf indexes (runs indexes)

-- No other runs are those of the list.
abbrev pub HasNoOtherRuns : Type 0
HasNoOtherRuns = (indexes : List ℕ) (all : List (ℕ × ℕ)) → AreRunsOf indexes all → all ≡ runs indexes

-- An index is told for a cause exactly if the sample there has it.
abbrev pub TellsCause : Type 0
TellsCause = (samples : List SampleWhy) (cause : SampleWhy) (index : ℕ)
    → Contains (indexes_where cause samples) index ↔ (slice_get samples index ≡ Some cause)

-- The index is told for exactly one of the causes.
pub record IsToldOnce (samples : List SampleWhy) (index : ℕ) : Type 0 where
  pub row : SampleWhy × List ℕ
  pub among : Contains causes row
  pub told : Contains (indexes_where row.0 samples) index
  pub once : (other : SampleWhy × List ℕ) → Contains causes other → Contains (indexes_where other.0 samples) index
      → other ≡ row

-- The index of each sample is told for exactly one of the causes.
abbrev pub TellsEachOnce : Type 0
TellsEachOnce = (samples : List SampleWhy) (index : ℕ)
    → All IsKeptSample samples → index < length samples → IsToldOnce samples index
