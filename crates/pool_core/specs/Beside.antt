-- The pairs and the candidates that a pool keeps beside its history.
use Rattle.std.specs.Prelude.{◌≡◌, ℕ, ◌-◌, ◌≤◌, List, [], ◌∷◌, length, take, slice_get, IsSomeAnd, ℤ}
use Rattle.c_ast.specs.declared.trace.Pair.{Pair}
use Rattle.c_ast.specs.Comparison.{Comparison}
use Rattle.alignment.specs.Number.{IsAlignment}
use Rattle.horn_clauses.specs.declared.family.Family.{Family}
use Rattle.horn_clauses.specs.Family.{atoms_at}
use Rattle.miners.specs.Gathered.{nothing_gathered}
use Rattle.live_mining.specs.Laws.{with_pairs}
use Rattle.pool_core.specs.declared.item.Item.{Item}
use Rattle.pool_core.specs.declared.item.Item.TheVariants as item
use Rattle.pool_core.specs.declared.pages.Added.{Added}
use Rattle.pool_core.specs.declared.lives.Front.{Front}
use Rattle.pool_core.specs.Candidates.{IsDrawnFrom}
use Rattle.pool_core.specs.History.{pairs_of, IsLegal}
use Rattle.pool_core.specs.Tables.{Logged}

-- ---- the pairs

-- The pairs of a history, each with its index and the worker that added it.
abbrev pub added_of : List Item → List Added
added_of [] = []
added_of (item.Pair worker index pair ∷ items) =
    record { worker = worker; index = index; pair = pair } ∷ added_of items
added_of (_ ∷ items) = added_of items

-- ---- live candidates

-- What is kept for an alignment is mined of the first so many of the pairs.
pub record IsFront (subject : Comparison) (pairs : List Pair) (alignment : ℕ) (front : Front) : Type 0 where
  pub within : front.count ≤ length pairs
  pub mined : front.live ≡ with_pairs (nothing_gathered subject alignment) (take front.count pairs)

-- There is one for each alignment.
abbrev pub AreFronts : Comparison → List Pair → List Front → Type 0
AreFronts subject pairs fronts = (alignment : ℕ) → IsAlignment alignment
    → IsSomeAnd (slice_get fronts (alignment - 1)) (IsFront subject pairs alignment)

-- ---- all of it

-- The history is legal and has room for the subject's samples, the pairs beside it are its own, and there is a front of
-- these for each alignment.
pub record IsKept (subject : Comparison) (log : Logged) (pairs : List Added) (fronts : List Front) : Type 0 where
  pub legal : IsLegal subject log.items
  pub samples : log.samples ≡ subject.settings.samples
  pub own : pairs ≡ added_of log.items
  pub fronts_are : AreFronts subject (pairs_of log.items) fronts

-- ---- what is looked up

-- The item is a pair with this input and these results.
pub record IsPairOf (next : Item) (input : List ℤ) (first second : ℤ) : Type 0 where
  pub worker : ℕ
  pub index : ℕ
  pub pair : Pair
  pub is : next ≡ item.Pair worker index pair
  pub input_is : pair.input ≡ input
  pub first_is : pair.first.result ≡ first
  pub second_is : pair.second.result ≡ second

-- The item has candidates, and the family is drawn from them.
pub record HasDrawn (next : Item) (family : Family) : Type 0 where
  pub worker : ℕ
  pub prefix : ℕ
  pub alignment : ℕ
  pub candidates : Family
  pub is : next ≡ item.Mined worker prefix alignment candidates
  pub drawn : IsDrawnFrom (atoms_at candidates) family
