-- What the calls of a pool answer, and what they leave.
use Rattle.std.specs.Prelude.{◌≡◌, ◌≢◌, ◌⊎◌, ℕ, ◌<◌, true, false, List, [], ◌∷◌, ◌++◌, length, take, slice_get, position, Contains, Option, Some, None, Result, Ok, Err}
use Rattle.std.specs.List.{list_any}
use Rattle.c_ast.specs.declared.trace.Pair.{Pair}
use Rattle.c_ast.specs.Comparison.{Comparison}
use Rattle.alignment.specs.Number.{IsAlignment}
use Rattle.horn_clauses.specs.declared.family.Family.{Family}
use Rattle.horn_clauses.specs.Family.{atoms_at}
use Rattle.trace_pair.specs.declared.skipped.Skipped.{Skipped}
use Rattle.trace_pair.specs.Pairs.{IsPair, IsSkip}
use Rattle.miners.specs.Candidates.{AreMinedFrom}
use Rattle.pool_core.specs.declared.item.Item.{Item}
use Rattle.pool_core.specs.declared.item.Item.TheVariants as item
use Rattle.pool_core.specs.declared.verdict.Why.{Why}
use Rattle.pool_core.specs.declared.verdict.Verdict.{Verdict}
use Rattle.pool_core.specs.declared.verdict.Verdict.TheVariants as verdict
use Rattle.pool_core.specs.declared.refused.PoolRefused.{PoolRefused}
use Rattle.pool_core.specs.declared.refused.PoolRefused.TheVariants as refused
use Rattle.pool_core.specs.declared.refused.Missing.{Missing}
use Rattle.pool_core.specs.declared.refused.Missing.TheVariants as missing
use Rattle.pool_core.specs.Candidates.{IsDrawnFrom}
use Rattle.pool_core.specs.Tried.{IsTried}
use Rattle.pool_core.specs.Justified.{ArePairsAt, IsJustified}
use Rattle.pool_core.specs.History.{pairs_of, indexes_of, has_index, has_mined, has_tried, verdict_of, IsOpen, has_later_pair, HasPair, HaveEqualResults, Concludes, IsLegal}

-- ---- what a pool is, and what it is given

-- A pool: the subject and the history.
pub record State : Type 0 where
  pub subject : Comparison
  pub items : List Item

-- With one item more, at the end.
abbrev pub with_item : State → Item → State
with_item state next = record { subject = state.subject; items = state.items ++ next ∷ [] }

-- The first pairs of a history, with their indexes.
pub record Snapshot : Type 0 where
  pub subject : Comparison
  pub indexes : List ℕ
  pub pairs : List Pair

-- All pairs so far.
abbrev pub snapshot_of : State → Snapshot
snapshot_of state =
    record { subject = state.subject; indexes = indexes_of state.items; pairs = pairs_of state.items }

-- As many pairs as indexes, which are of samples and none of which comes twice, each the pair of its own.
abbrev pub IsSnapshot : Snapshot → Type 0
IsSnapshot snapshot = ArePairsAt snapshot.subject snapshot.indexes snapshot.pairs

-- A call that adds an item where it is answered.
pub data Call : Type 0 where
  Append : (worker : ℕ) → (subject : Comparison) → (index : ℕ) → (pair : Pair) → Call
  Skip : (worker : ℕ) → (subject : Comparison) → (index : ℕ) → (skipped : Skipped) → Call
  Mine : (worker : ℕ) → (snapshot : Snapshot) → (alignment : ℕ) → (candidates : Family) → Call
  Try : (worker : ℕ) → (snapshot : Snapshot) → (alignment : ℕ) → (why : Why) → Call
  Post : (worker : ℕ) → (verdict : Verdict) → Call

-- The call's own item.
abbrev pub item_of : Call → Item
item_of (Append worker subject index pair) = item.Pair worker index pair
item_of (Skip worker subject index skipped) = item.Skipped worker index skipped
item_of (Mine worker snapshot alignment candidates) =
    item.Mined worker (length snapshot.pairs) alignment candidates
item_of (Try worker snapshot alignment why) = item.Tried worker (length snapshot.pairs) alignment why
item_of (Post worker verdict) = item.Posted worker verdict

-- What whoever makes the call owes. It speaks of what is given alone.
abbrev pub MayCall : Call → Type 0
MayCall (Append worker subject index pair) = (index < subject.settings.samples) × IsPair subject index pair
MayCall (Skip worker subject index skipped) = (index < subject.settings.samples) × IsSkip subject index skipped
MayCall (Mine worker snapshot alignment candidates) =
    IsAlignment alignment × AreMinedFrom snapshot.subject alignment snapshot.pairs candidates
MayCall (Try worker snapshot alignment why) = IsTried snapshot.subject alignment snapshot.pairs why
MayCall (Post worker (verdict.Equivalent coupled indexes)) = Unit {0}
MayCall (Post worker (verdict.Different index input first second)) = Unit {0}
MayCall (Post worker (verdict.Unknown samples alignments)) = ⊥

-- ---- refusals

-- The number of pairs that the call names.
abbrev pub count_of : Call → ℕ
count_of (Mine worker snapshot alignment candidates) = length snapshot.pairs
count_of (Try worker snapshot alignment why) = length snapshot.pairs
count_of (Post worker (verdict.Equivalent coupled indexes)) = length indexes
count_of _ = 0

-- The index that it names.
abbrev pub index_of : Call → ℕ
index_of (Append worker subject index pair) = index
index_of (Skip worker subject index skipped) = index
index_of (Post worker (verdict.Different index input first second)) = index
index_of _ = 0

-- The number of the alignment that it names.
abbrev pub alignment_of : Call → ℕ
alignment_of (Mine worker snapshot alignment candidates) = alignment
alignment_of (Try worker snapshot alignment why) = alignment
alignment_of (Post worker (verdict.Equivalent coupled indexes)) = coupled.alignment
alignment_of _ = 0

-- Only a pair that is appended takes memory: it comes to be shared.
abbrev pub MayLackMemory : Call → Type 0
MayLackMemory (Append worker subject index pair) = Unit {0}
MayLackMemory _ = ⊥

module _ (state : State) where
  -- The snapshot has the pool's first pairs: those of its first indexes, since a sample is one pair.
  abbrev pub HasFirstPairs : Snapshot → Type 0
  HasFirstPairs snapshot = snapshot.indexes ≡ take (length snapshot.indexes) (indexes_of state.items)

  -- Candidates of so many pairs were mined under the alignment, and the family is drawn from them.
  pub record IsDrawnFromMined (prefix alignment : ℕ) (family : Family) : Type 0 where
    pub worker : ℕ
    pub candidates : Family
    pub stands : Contains state.items (item.Mined worker prefix alignment candidates)
    pub drawn : IsDrawnFrom (atoms_at candidates) family

  -- The given subject, or that of the snapshot or the coupling, is the pool's.
  abbrev pub IsOwn : Call → Type 0
  IsOwn (Append worker subject index pair) = subject ≡ state.subject
  IsOwn (Skip worker subject index skipped) = subject ≡ state.subject
  IsOwn (Mine worker snapshot alignment candidates) = snapshot.subject ≡ state.subject
  IsOwn (Try worker snapshot alignment why) = snapshot.subject ≡ state.subject
  IsOwn (Post worker (verdict.Equivalent coupled indexes)) = coupled.subject ≡ state.subject
  IsOwn (Post worker _) = Unit {0}

  -- The given pairs are the pool's first ones, and where they were mined all that the worker added are among them.
  abbrev pub IsCurrent : Call → Type 0
  IsCurrent (Mine worker snapshot alignment candidates) =
      HasFirstPairs snapshot × (has_later_pair worker (length snapshot.pairs) state.items ≡ false)
  IsCurrent (Try worker snapshot alignment why) = HasFirstPairs snapshot
  IsCurrent (Post worker (verdict.Equivalent coupled indexes)) =
      indexes ≡ take (length indexes) (indexes_of state.items)
  IsCurrent _ = Unit {0}

  -- A pair has the index, the input and both results of the difference, and these are not equal.
  abbrev pub IsSeen : Call → Type 0
  IsSeen (Post worker (verdict.Different index input first second)) =
      HasPair state.items index input first second × (first ≢ second)
  IsSeen _ = Unit {0}

  -- What was tried was mined before, and so was what the family of the coupling is drawn from.
  abbrev pub IsMinedBefore : Call → Type 0
  IsMinedBefore (Try worker snapshot alignment why) =
      list_any (has_mined (length snapshot.pairs) alignment) state.items ≡ true
  IsMinedBefore (Post worker (verdict.Equivalent coupled indexes)) =
      IsDrawnFromMined (length indexes) coupled.alignment coupled.family
  IsMinedBefore _ = Unit {0}

  -- Where an item of the index stands; or one of the call's kind with so many pairs and the alignment.
  abbrev pub double_of : Call → Option ℕ
  double_of (Append worker subject index pair) = position (has_index index) state.items
  double_of (Skip worker subject index skipped) = position (has_index index) state.items
  double_of (Mine worker snapshot alignment candidates) =
      position (has_mined (length snapshot.pairs) alignment) state.items
  double_of (Try worker snapshot alignment why) =
      position (has_tried (length snapshot.pairs) alignment) state.items
  double_of (Post worker verdict) = None

  module _ (call : Call) where
    -- No verdict is posted, and the subject is the pool's.
    abbrev pub IsAdmitted : Type 0
    IsAdmitted = IsOpen state.items × IsOwn call

    -- Further, what it rests on is still so, and is there.
    abbrev pub IsGrounded : Type 0
    IsGrounded = IsAdmitted × IsCurrent call × IsSeen call × IsMinedBefore call

    -- What the call answers: the position of its item, where nothing refuses it; else the first refusal, in the order
    -- in which they stand here.
    abbrev pub Answers : Result ℕ PoolRefused → Type 0
    Answers (Ok place) = IsGrounded × (double_of call ≡ None) × (place ≡ length state.items)
    Answers (Err refused.Closed) = ¬ IsOpen state.items
    Answers (Err refused.Stranger) = IsOpen state.items × (¬ IsOwn call)
    Answers (Err (refused.Stale count)) = IsAdmitted × (¬ IsCurrent call) × (count ≡ count_of call)
    Answers (Err (refused.NoPair index)) =
        IsAdmitted × IsCurrent call × (¬ IsSeen call) × (index ≡ index_of call)
    Answers (Err (refused.Unmined alignment)) =
        IsAdmitted × IsCurrent call × IsSeen call × (¬ IsMinedBefore call) × (alignment ≡ alignment_of call)
    Answers (Err (refused.Double place)) = IsGrounded × (double_of call ≡ Some place)
    Answers (Err refused.Memory) = IsGrounded × (double_of call ≡ None) × MayLackMemory call

-- ---- one call

-- An answered call adds its own item, and nothing else changes. A refused one changes nothing.
abbrev pub Changes : State → Call → Result ℕ PoolRefused → State → Type 0
Changes old call (Ok place) new = new ≡ with_item old (item_of call)
Changes old call (Err why) new = new ≡ old

-- The call is answered so, and leaves the pool so.
pub record Plays (old : State) (call : Call) (answer : Result ℕ PoolRefused) (new : State) : Type 0 where
  pub answers : Answers old call answer
  pub changes : Changes old call answer new

-- ---- the verdict of a pool

-- There is an item for each sample whose index is below this.
abbrev pub HaveSamples : List Item → ℕ → Type 0
HaveSamples items count = (index : ℕ) → index < count → list_any (has_index index) items ≡ true

-- Each alignment whose number is below this was tried with the candidates of all pairs.
abbrev pub AreAllTried : List Item → ℕ → Type 0
AreAllTried items count = (alignment : ℕ) → IsAlignment alignment → alignment < count
    → list_any (has_tried (length (pairs_of items)) alignment) items ≡ true

-- The item at this position is the first pair whose results differ.
pub record IsFirstDifference (items : List Item) (place : ℕ) : Type 0 where
  pub worker : ℕ
  pub index : ℕ
  pub pair : Pair
  pub stands : slice_get items place ≡ Some (item.Pair worker index pair)
  pub differ : pair.first.result ≢ pair.second.result
  pub equal_before : HaveEqualResults (take place items)

module _ (state : State) where
  -- Without a verdict, there is an item for each sample.
  abbrev pub IsSampled : Type 0
  IsSampled = IsOpen state.items × HaveSamples state.items state.subject.settings.samples

  -- Each alignment was tried, too, with the candidates of all pairs, whose results are equal.
  abbrev pub IsSettled : Type 0
  IsSettled = IsSampled × HaveEqualResults state.items × AreAllTried state.items 13

  -- The posted verdict, where there is one; else that nothing is decided.
  abbrev pub IsConcluded : Verdict → Type 0
  IsConcluded (verdict.Unknown samples alignments) = Concludes state.subject state.items samples alignments
  IsConcluded found = verdict_of state.items ≡ Some found

  -- What is answered where a verdict is asked for: the verdict, or what is missing first, in the order in which they
  -- stand here.
  abbrev pub AnswersConclusion : Result Verdict Missing → Type 0
  AnswersConclusion (Ok found) = IsConcluded found
  AnswersConclusion (Err (missing.Sample index)) =
      IsOpen state.items × (index < state.subject.settings.samples) × HaveSamples state.items index
      × (list_any (has_index index) state.items ≡ false)
  AnswersConclusion (Err (missing.Differs place)) = IsSampled × IsFirstDifference state.items place
  AnswersConclusion (Err (missing.Alignment alignment)) =
      IsSampled × HaveEqualResults state.items × IsAlignment alignment × AreAllTried state.items alignment
      × (list_any (has_tried (length (pairs_of state.items)) alignment) state.items ≡ false)
  AnswersConclusion (Err missing.Memory) = (¬ IsOpen state.items) ⊎ IsSettled

-- What is concluded from a legal history is justified.
abbrev pub ConclusionsAreJustified : Type 0
ConclusionsAreJustified = (state : State) (found : Verdict) → IsLegal state.subject state.items
    → AnswersConclusion state (Ok found) → IsJustified state.subject found
