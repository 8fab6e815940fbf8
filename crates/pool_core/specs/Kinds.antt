-- The kinds of verdicts: two justified verdicts are of one kind, and which one that is.
use Rattle.std.specs.Prelude.{◌≡◌, ◌≢◌, ◌⊎◌, ◌↔◌, ℕ, ◌<◌, ◌-◌, List, slice_get, IsSomeAnd}
use Rattle.c_ast.specs.declared.trace.Pair.{Pair}
use Rattle.c_ast.specs.Comparison.{Comparison, IsComparison}
use Rattle.alignment.specs.Number.{IsAlignment}
use Rattle.horn_clauses.specs.declared.family.Family.{Family}
use Rattle.relation.specs.Coupled.{IsLinearUnder}
use Rattle.trace_pair.specs.Pairs.{IsPair}
use Rattle.pool_core.specs.declared.verdict.Why.{Why}
use Rattle.pool_core.specs.declared.verdict.Why.TheVariants as why
use Rattle.pool_core.specs.declared.verdict.Verdict.{Verdict}
use Rattle.pool_core.specs.declared.verdict.Verdict.TheVariants as verdict
use Rattle.pool_core.specs.Candidates.{IsOfCandidates}
use Rattle.pool_core.specs.Justified.{AreAllPairs, IsJustified}

-- The kinds of verdicts.
pub data Kind : Type 0 where
  IsEquivalent : Kind
  IsDifferent : Kind
  IsUnknown : Kind

-- The verdict's kind.
abbrev pub kind_of : Verdict → Kind
kind_of (verdict.Equivalent coupled indexes) = IsEquivalent
kind_of (verdict.Different index input first second) = IsDifferent
kind_of (verdict.Unknown samples alignments) = IsUnknown

-- The reason is a limit of an obligation.
abbrev pub IsObligationLimit : Why → Type 0
IsObligationLimit why.NoCoupling = ⊥
IsObligationLimit (why.Product limit) = ⊥
IsObligationLimit (why.AtObligation obligation left limit) = Unit {0}

-- The verdict is unknown, and its reason for the alignment with this number is a limit of an obligation.
abbrev pub NamesLimitAt : ℕ → Verdict → Type 0
NamesLimitAt alignment (verdict.Unknown samples alignments) =
    IsSomeAnd (slice_get alignments (alignment - 1)) IsObligationLimit
NamesLimitAt alignment _ = ⊥

-- The second verdict names a coupling, and the first one such a limit at its alignment.
abbrev pub IsHiddenFrom : Verdict → Verdict → Type 0
IsHiddenFrom v (verdict.Equivalent coupled indexes) = NamesLimitAt coupled.alignment v
IsHiddenFrom v _ = ⊥

-- Two verdicts that are justified of one subject are of one kind, unless one of them is unknown and names a limit of an
-- obligation at the other's alignment.
abbrev pub AreOfOneKind : Type 0
AreOfOneKind = (subject : Comparison) (v w : Verdict) → IsComparison subject → IsJustified subject v
    → IsJustified subject w → (kind_of v ≡ kind_of w) ⊎ (IsHiddenFrom v w ⊎ IsHiddenFrom w v)

-- ---- completeness

-- Some sample is a pair whose results differ.
pub record HasDifference (subject : Comparison) : Type 0 where
  pub index : ℕ
  pub below : index < subject.settings.samples
  pub pair : Pair
  pub is_pair : IsPair subject index pair
  pub differ : pair.first.result ≢ pair.second.result

-- A justified verdict is that the functions differ exactly where some sample is a pair whose results differ.
abbrev pub DifferencesAreFound : Type 0
DifferencesAreFound = (subject : Comparison) (v : Verdict) → IsComparison subject → IsJustified subject v
    → (kind_of v ≡ IsDifferent) ↔ HasDifference subject

-- Under the alignment some family of candidates of all pairs is linear.
pub record HasLinearFamily (subject : Comparison) (alignment : ℕ) : Type 0 where
  pub indexes : List ℕ
  pub pairs : List Pair
  pub all : AreAllPairs subject indexes pairs
  pub family : Family
  pub candidates : IsOfCandidates subject alignment pairs family
  pub linear : IsLinearUnder subject alignment family

-- Where there is one, a justified verdict is that the functions are equivalent, or it names a limit of an obligation
-- there.
abbrev pub CouplingsAreFound : Type 0
CouplingsAreFound = (subject : Comparison) (v : Verdict) (alignment : ℕ) → IsComparison subject
    → IsJustified subject v → IsAlignment alignment → HasLinearFamily subject alignment
    → (kind_of v ≡ IsEquivalent) ⊎ NamesLimitAt alignment v
