-- How far one worker alone has come.
use Rattle.pool_core.specs.History.{verdict_of}
use Rattle.pool_core.specs.declared.verdict.Verdict.{Verdict}
use Rattle.std.proofs.Common.{Some, ◌⊎◌}
use Rattle.workers.specs.Solved.{IsFirstVerdict}
use Rattle.std.specs.Prelude.{◌≡◌, ℕ, ◌<◌, ◌≤◌, false, List, All, Bool, true, Result, Ok, Err}
use Rattle.std.specs.List.{list_any}
use Rattle.c_ast.specs.Comparison.{Comparison}
use Rattle.path_product.specs.declared.limit.ProductLimit.{ProductLimit}
use Rattle.trace_pair.specs.declared.pairs.Graphs.{Graphs}
use Rattle.pool_core.specs.declared.item.Item.{Item}
use Rattle.pool_core.specs.History.{indexes_of, has_index, has_mined, has_tried, IsOpen, HaveEqualResults, IsLegal}
use Rattle.pool_core.specs.Plays.{HaveSamples, AreAllTried}
use Rattle.workers.specs.Solved.{worker_of, AreRising}
use Rattle.workers.specs.Ground.{Cases, AreCasesOf, LimitsAll}

-- The history is legal and open, all of it is worker 0's, the results of its pairs are equal, and their indexes rise.
pub record IsUndecided (subject : Comparison) (items : List Item) : Type 0 where
  pub legal : IsLegal subject items
  pub undecided : IsOpen items
  pub own : All (λ added. worker_of added ≡ 0) items
  pub equal : HaveEqualResults items
  pub rising : AreRising (indexes_of items)

-- So it is with the samples before this one, each of which has an item, and no other item is there.
pub record IsSampledTo (subject : Comparison) (items : List Item) (count : ℕ) : Type 0 where
  pub is : IsUndecided subject items
  pub below : All (λ index. index < count) (indexes_of items)
  pub samples : HaveSamples items count
  pub later : (index : ℕ) → count ≤ index → list_any (has_index index) items ≡ false
  pub unmined : (prefix alignment : ℕ) → list_any (has_mined prefix alignment) items ≡ false
  pub untried : (prefix alignment : ℕ) → list_any (has_tried prefix alignment) items ≡ false

-- All samples have an item. The alignments before this one were tried on all pairs, and of the later ones nothing was
-- mined or tried.
pub record IsTriedTo (subject : Comparison) (items : List Item) (number : ℕ) : Type 0 where
  pub is : IsUndecided subject items
  pub samples : HaveSamples items subject.settings.samples
  pub tried : AreAllTried items number
  pub unmined : (prefix alignment : ℕ) → number ≤ alignment → list_any (has_mined prefix alignment) items ≡ false
  pub untried : (prefix alignment : ℕ) → number ≤ alignment → list_any (has_tried prefix alignment) items ≡ false

-- A verdict is posted, the first that comes where the samples are taken in order, and then the alignments. All is
-- worker 0's.
pub record HasFirstVerdict (subject : Comparison) (items : List Item) : Type 0 where
  pub legal : IsLegal subject items
  pub own : All (λ added. worker_of added ≡ 0) items
  pub found : Verdict
  pub posted : verdict_of items ≡ Some found
  pub first : IsFirstVerdict subject items found

-- Nothing is left for one worker alone: there is a verdict, or all was taken and tried without one.
abbrev pub IsFinished : Comparison → List Item → Type 0
IsFinished subject items = HasFirstVerdict subject items ⊎ IsTriedTo subject items 13

-- What all alignments share is made of these graphs, or each alignment has the limit.
abbrev pub IsGroundOf : Comparison → Graphs → Result Cases ProductLimit → Type 0
IsGroundOf subject graphs (Ok cases) = AreCasesOf subject graphs cases
IsGroundOf subject graphs (Err limit) = LimitsAll subject limit

-- A verdict was posted, or it goes on like this.
abbrev pub GoesOn : Bool → Comparison → List Item → Type 0 → Type 0
GoesOn true subject items others = HasFirstVerdict subject items
GoesOn false subject items others = others
