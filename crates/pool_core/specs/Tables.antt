-- Where the items of a history stand, in tables, so that no call looks through it.
use Rattle.std.specs.Prelude.{◌≡◌, ℕ, ◌+◌, ◌*◌, ◌-◌, ◌<◌, ◌≤◌, Bool, List, [], ◌∷◌, ◌++◌, length, slice_get, position, Option, Some, None}
use Rattle.alignment.specs.Number.{IsAlignment}
use Rattle.pool_core.specs.declared.item.Item.{Item}
use Rattle.pool_core.specs.declared.item.Item.TheVariants as item
use Rattle.pool_core.specs.History.{has_index, has_mined, has_tried}

-- So many items can stand in a history, with so many samples: one for each sample; for each number of pairs and each
-- alignment, candidates and a reason; and a verdict.
abbrev pub most_items : ℕ → ℕ
most_items samples = samples + 24 * (samples + 1) + 1

-- The number of a number of pairs and an alignment, below 12 times the number of samples and one.
abbrev pub slot_of : ℕ → ℕ → ℕ
slot_of prefix alignment = prefix * 12 + (alignment - 1)

-- The history of so many samples.
pub record Logged : Type 0 where
  pub samples : ℕ
  pub items : List Item

-- Each sample's slot says where the first item of the sample stands.
abbrev pub TellsSamples : List (Option ℕ) → Logged → Type 0
TellsSamples slots log = (index : ℕ) → index < log.samples
    → slice_get slots index ≡ Some (position (has_index index) log.items)

-- The slot of each number of pairs and each alignment says where the first item that has both stands.
abbrev pub TellsTwo : (ℕ → ℕ → Item → Bool) → List (Option ℕ) → Logged → Type 0
TellsTwo has slots log = (prefix alignment : ℕ) → prefix ≤ log.samples → IsAlignment alignment
    → slice_get slots (slot_of prefix alignment) ≡ Some (position (has prefix alignment) log.items)

-- What the three tables of a history say: that of the samples, that of the candidates, and that of the reasons.
pub record AreTables (of_samples of_mined of_tried : List (Option ℕ)) (log : Logged) : Type 0 where
  pub one_a_sample : length of_samples ≡ log.samples
  pub twelve_a_mined_prefix : length of_mined ≡ 12 * (log.samples + 1)
  pub twelve_a_tried_prefix : length of_tried ≡ 12 * (log.samples + 1)
  pub samples_told : TellsSamples of_samples log
  pub mined_told : TellsTwo has_mined of_mined log
  pub tried_told : TellsTwo has_tried of_tried log

-- The history with one item more, at the end.
abbrev pub with_logged : Logged → Item → Logged
with_logged log next = record { samples = log.samples; items = log.items ++ next ∷ [] }

-- The item has a slot of its own, which is empty.
abbrev pub IsUnlogged : Logged → Item → Type 0
IsUnlogged log (item.Pair worker index pair) =
    (index < log.samples) × (position (has_index index) log.items ≡ None)
IsUnlogged log (item.Skipped worker index skipped) =
    (index < log.samples) × (position (has_index index) log.items ≡ None)
IsUnlogged log (item.Mined worker prefix alignment candidates) =
    (prefix ≤ log.samples) × (position (has_mined prefix alignment) log.items ≡ None)
IsUnlogged log (item.Tried worker prefix alignment why) =
    (prefix ≤ log.samples) × (position (has_tried prefix alignment) log.items ≡ None)
IsUnlogged log (item.Posted worker verdict) = Unit {0}
