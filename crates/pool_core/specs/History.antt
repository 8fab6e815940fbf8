-- What may follow what in a history, which is read from its front.
use Rattle.std.specs.Prelude.{◌≡◌, ℕ, ◌==◌, ◌&&◌, ◌<◌, ◌≤◌, ◌-◌, Bool, true, false, List, [], ◌∷◌, ◌++◌, length, take, drop, slice_get, All, Contains, Option, Some, None, IsSomeAnd, ℤ}
use Rattle.std.specs.List.{list_any}
use Rattle.c_ast.specs.declared.trace.Pair.{Pair}
use Rattle.c_ast.specs.Comparison.{Comparison}
use Rattle.alignment.specs.Number.{IsAlignment}
use Rattle.horn_clauses.specs.declared.family.Family.{Family}
use Rattle.trace_pair.specs.Pairs.{IsPair, IsSkip}
use Rattle.miners.specs.Candidates.{AreMinedFrom}
use Rattle.pool_core.specs.declared.item.Item.{Item}
use Rattle.pool_core.specs.declared.item.Item.TheVariants as item
use Rattle.pool_core.specs.declared.verdict.Why.{Why}
use Rattle.pool_core.specs.declared.verdict.SampleWhy.{SampleWhy}
use Rattle.pool_core.specs.declared.verdict.SampleWhy.TheVariants as sample
use Rattle.pool_core.specs.declared.verdict.Verdict.{Verdict}
use Rattle.pool_core.specs.declared.verdict.Verdict.TheVariants as verdict
use Rattle.pool_core.specs.Tried.{IsTried}
use Rattle.pool_core.specs.Justified.{ShowsEquivalence, ShowsDifference}

-- ---- what stands in a history

-- The pairs, in their order.
abbrev pub pairs_of : List Item → List Pair
pairs_of [] = []
pairs_of (item.Pair worker index pair ∷ items) = pair ∷ pairs_of items
pairs_of (_ ∷ items) = pairs_of items

-- Their indexes.
abbrev pub indexes_of : List Item → List ℕ
indexes_of [] = []
indexes_of (item.Pair worker index pair ∷ items) = index ∷ indexes_of items
indexes_of (_ ∷ items) = indexes_of items

-- The workers that added them.
abbrev pub workers_of : List Item → List ℕ
workers_of [] = []
workers_of (item.Pair worker index pair ∷ items) = worker ∷ workers_of items
workers_of (_ ∷ items) = workers_of items

-- Whether the item is of the sample with this index.
abbrev pub has_index : ℕ → Item → Bool
has_index i (item.Pair worker index pair) = index == i
has_index i (item.Skipped worker index skipped) = index == i
has_index i _ = false

-- Whether the item has the candidates of so many pairs under the alignment.
abbrev pub has_mined : ℕ → ℕ → Item → Bool
has_mined m k (item.Mined worker prefix alignment candidates) = (prefix == m) && (alignment == k)
has_mined m k _ = false

-- Whether the item has the reason of the alignment, with the candidates of so many pairs.
abbrev pub has_tried : ℕ → ℕ → Item → Bool
has_tried m k (item.Tried worker prefix alignment why) = (prefix == m) && (alignment == k)
has_tried m k _ = false

-- The verdict, where one is posted.
abbrev pub verdict_of : List Item → Option Verdict
verdict_of [] = None
verdict_of (item.Posted worker verdict ∷ items) = Some verdict
verdict_of (_ ∷ items) = verdict_of items

-- No verdict is posted.
abbrev pub IsOpen : List Item → Type 0
IsOpen items = verdict_of items ≡ None

-- Whether the worker added a pair that is not among the first so many.
abbrev pub has_later_pair : ℕ → ℕ → List Item → Bool
has_later_pair worker count items = list_any (λ other. other == worker) (drop count (workers_of items))

-- The pair of this index has the input and both results.
pub record HasPair (items : List Item) (index : ℕ) (input : List ℤ) (first second : ℤ) : Type 0 where
  pub worker : ℕ
  pub pair : Pair
  pub stands : Contains items (item.Pair worker index pair)
  pub input_is : pair.input ≡ input
  pub first_is : pair.first.result ≡ first
  pub second_is : pair.second.result ≡ second

-- ---- what an item may follow

module _ (subject : Comparison) (before : List Item) where
  -- The index is that of a sample, of which nothing was said.
  pub record IsNewSample (index : ℕ) : Type 0 where
    pub below : index < subject.settings.samples
    pub new : list_any (has_index index) before ≡ false

  -- So many pairs are there, with all that the worker added. Nothing was mined of them under the alignment, and these
  -- are their candidates.
  pub record IsNewlyMined (worker prefix alignment : ℕ) (candidates : Family) : Type 0 where
    pub named : IsAlignment alignment
    pub there : prefix ≤ length (pairs_of before)
    pub own : has_later_pair worker prefix before ≡ false
    pub new : list_any (has_mined prefix alignment) before ≡ false
    pub mined : AreMinedFrom subject alignment (take prefix (pairs_of before)) candidates

  -- The candidates of so many pairs were mined under the alignment, which was not tried on them, and the reason is true
  -- of it.
  pub record IsNewlyTried (prefix alignment : ℕ) (why : Why) : Type 0 where
    pub mined : list_any (has_mined prefix alignment) before ≡ true
    pub new : list_any (has_tried prefix alignment) before ≡ false
    pub tried : IsTried subject alignment (take prefix (pairs_of before)) why

  -- The verdict is justified and not unknown, and rests on what stands before it: on the candidates of the first pairs,
  -- which were mined; or on a pair.
  abbrev pub MayBePosted : Verdict → Type 0
  MayBePosted (verdict.Equivalent coupled indexes) =
      ShowsEquivalence subject coupled indexes
      × (indexes ≡ take (length indexes) (indexes_of before))
      × (list_any (has_mined (length indexes) coupled.alignment) before ≡ true)
  MayBePosted (verdict.Different index input first second) =
      ShowsDifference subject index input first second × HasPair before index input first second
  MayBePosted (verdict.Unknown samples alignments) = ⊥

  -- What the item asks of those before it.
  abbrev pub IsAllowed : Item → Type 0
  IsAllowed (item.Pair worker index pair) = IsNewSample index × IsPair subject index pair
  IsAllowed (item.Skipped worker index skipped) = IsNewSample index × IsSkip subject index skipped
  IsAllowed (item.Mined worker prefix alignment candidates) =
      IsNewlyMined worker prefix alignment candidates
  IsAllowed (item.Tried worker prefix alignment why) = IsNewlyTried prefix alignment why
  IsAllowed (item.Posted worker verdict) = MayBePosted verdict

  -- The item may follow these: there is no verdict among them, and they are what it asks for.
  abbrev pub MayFollow : Item → Type 0
  MayFollow next = IsOpen before × IsAllowed next

module _ (subject : Comparison) where
  -- Behind those before them each of the items may follow.
  abbrev pub IsLegalBehind : List Item → List Item → Type 0
  IsLegalBehind before [] = Unit {0}
  IsLegalBehind before (next ∷ items) =
      MayFollow subject before next × IsLegalBehind (before ++ next ∷ []) items

  -- The history is legal: each item may follow those before it.
  abbrev pub IsLegal : List Item → Type 0
  IsLegal items = IsLegalBehind [] items

-- ---- without a verdict

-- The history has this of the sample.
abbrev pub HasSample : List Item → ℕ → SampleWhy → Type 0
HasSample items index sample.Equal = (worker : ℕ) × (pair : Pair) × Contains items (item.Pair worker index pair)
HasSample items index (sample.Skipped skipped) =
    (worker : ℕ) × Contains items (item.Skipped worker index skipped)

-- The history has this reason of the alignment, with the candidates of so many pairs.
abbrev pub HasReason : List Item → ℕ → ℕ → Why → Type 0
HasReason items prefix alignment why = (worker : ℕ) × Contains items (item.Tried worker prefix alignment why)

-- The results of each pair are equal.
abbrev pub HaveEqualResults : List Item → Type 0
HaveEqualResults items = All (λ pair. pair.first.result ≡ pair.second.result) (pairs_of items)

-- The history has no verdict and no pair whose results differ. It has an item for each sample, and each alignment was
-- tried with the candidates of all pairs; the verdict that nothing is decided tells all these.
pub record Concludes (subject : Comparison) (items : List Item) (samples : List SampleWhy) (alignments : List Why)
    : Type 0 where
  pub undecided : IsOpen items
  pub equal : HaveEqualResults items
  pub as_many : length samples ≡ subject.settings.samples
  pub said : (index : ℕ) → index < subject.settings.samples
      → IsSomeAnd (slice_get samples index) (HasSample items index)
  pub twelve : length alignments ≡ 12
  pub tried : (alignment : ℕ) → IsAlignment alignment
      → IsSomeAnd (slice_get alignments (alignment - 1)) (HasReason items (length (pairs_of items)) alignment)
