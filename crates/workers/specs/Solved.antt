-- What is solved of two functions, and what one worker alone finds.
use Rattle.std.specs.Prelude.{◌≡◌, ℕ, suc, zero, ◌<◌, ◌==◌, if◌then◌else◌, true, List, [], ◌∷◌, length, All}
use Rattle.std.specs.List.{list_any}
use Rattle.c_ast.specs.declared.trace.Pair.{Pair}
use Rattle.c_ast.specs.Comparison.{Comparison}
use Rattle.alignment.specs.Number.{IsAlignment}
use Rattle.relation.specs.Coupled.{Coupling}
use Rattle.trace_pair.specs.Pairs.{IsPair}
use Rattle.pool_core.specs.declared.item.Item.{Item}
use Rattle.pool_core.specs.declared.item.Item.TheVariants as item
use Rattle.pool_core.specs.declared.verdict.Verdict.{Verdict}
use Rattle.pool_core.specs.declared.verdict.Verdict.TheVariants as verdict
use Rattle.pool_core.specs.History.{has_tried, IsLegal}
use Rattle.pool_core.specs.Justified.{AreAllPairs, IsJustified}
use Rattle.pool_core.specs.Plays.{IsConcluded}
use Rattle.workers.specs.declared.solved.Solved.{Solved}
use Rattle.workers.specs.Found.{ContainsLinear}

-- ---- whoever worked

-- The worker that added the item.
abbrev pub worker_of : Item → ℕ
worker_of (item.Pair worker index pair) = worker
worker_of (item.Skipped worker index skipped) = worker
worker_of (item.Mined worker prefix alignment candidates) = worker
worker_of (item.Tried worker prefix alignment why) = worker
worker_of (item.Posted worker verdict) = worker

-- How many of the items the worker added.
abbrev pub share_of : ℕ → List Item → ℕ
share_of worker [] = 0
share_of worker (added ∷ items) =
    if worker_of added == worker then suc (share_of worker items) else share_of worker items

-- The same for each worker from the first one on, so many of them.
abbrev pub shares_from : ℕ → ℕ → List Item → List ℕ
shares_from first zero items = []
shares_from first (suc count) items = share_of first items ∷ shares_from (suc first) count items

-- The history is legal, and all in it was added by workers below this number. It ends with the verdict, or the verdict
-- is concluded from it: it is justified. The shares say how many items each worker added.
pub record IsSolved (subject : Comparison) (crew : ℕ) (solved : Solved) : Type 0 where
  pub legal : IsLegal subject solved.history
  pub workers : All (λ added. worker_of added < crew) solved.history
  pub concluded : IsConcluded (record { subject = subject; items = solved.history }) solved.verdict
  pub justified : IsJustified subject solved.verdict
  pub shares : solved.shares ≡ shares_from 0 crew solved.history

-- ---- one worker alone

-- Each number is below the next one.
abbrev pub AreRising : List ℕ → Type 0
AreRising [] = Unit {0}
AreRising (i ∷ []) = Unit {0}
AreRising (i ∷ j ∷ more) = (i < j) × AreRising (j ∷ more)

-- No sample before this one is a pair whose results differ.
abbrev pub IsLeastDifference : Comparison → ℕ → Type 0
IsLeastDifference subject index = (earlier : ℕ) (pair : Pair) → earlier < index → IsPair subject earlier pair
    → pair.first.result ≡ pair.second.result

-- The family is the greatest linear one of candidates of all pairs, whose indexes rise. Each alignment before this one
-- was tried on them.
pub record IsLeastCoupling (subject : Comparison) (items : List Item) (coupled : Coupling) (indexes : List ℕ)
    : Type 0 where
  pub rising : AreRising indexes
  pub pairs : List Pair
  pub all : AreAllPairs subject indexes pairs
  pub greatest : ContainsLinear subject coupled.alignment pairs coupled.family
  pub before : (alignment : ℕ) → IsAlignment alignment → alignment < coupled.alignment
      → list_any (has_tried (length pairs) alignment) items ≡ true

-- The verdict is the first that comes where the samples are taken in order, and then the alignments, each on all pairs.
abbrev pub IsFirstVerdict : Comparison → List Item → Verdict → Type 0
IsFirstVerdict subject items (verdict.Equivalent coupled indexes) = IsLeastCoupling subject items coupled indexes
IsFirstVerdict subject items (verdict.Different index input first second) = IsLeastDifference subject index
IsFirstVerdict subject items (verdict.Unknown samples alignments) = Unit {0}

-- One worker solved it, and the verdict is that first one.
pub record IsSolvedAlone (subject : Comparison) (found : Solved) : Type 0 where
  pub solved : IsSolved subject 1 found
  pub first : IsFirstVerdict subject found.history found.verdict
