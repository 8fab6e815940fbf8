-- The tables of a history that grows.
use Rattle.std.proofs.Common.{◌≡◌, ◌≢◌, ℕ, ◌+◌, ◌*◌, ◌<◌, ◌≤◌, Bool, true, false, ◌&&◌, eqb, not, zero, suc, List, [], ◌∷◌, ◌++◌, length, replicate, get_or, Option, Some, None, refl, sym, ap, ◌∙◌, subst, inl, inr, ◌⊎◌, ⊎_elim, arith, length-set}
use Rattle.std.specs.List.{slice_get, position}
use Rattle.std.proofs.Math.ListN.{set}
use Rattle.std.proofs.lemmas.List.{length-replicate, length_push}
use Rattle.std.proofs.lemmas.List.Folds.{position_or_len_push}
use Rattle.std.proofs.lemmas.List.Sums.{prefix_len-le-length}
use Rattle.std.proofs.lemmas.Option.{gets, get_or_from_slice_get}
use Rattle.std.proofs.lemmas.Grind.{common_steps}
use Rattle.std.proofs.lemmas.Bool.Decides.{nat_tests}
use Rattle.std.proofs.lemmas.Bool.{eqb-true, false≢true, cases_eq, ne_eqb, false_from_ne_true}
use Rattle.c_ast.specs.declared.trace.Pair.{Pair}
use Rattle.trace_pair.specs.declared.skipped.Skipped.{Skipped}
use Rattle.horn_clauses.specs.declared.family.Family.{Family}
use Rattle.pool_core.specs.declared.verdict.Why.{Why}
use Rattle.pool_core.specs.declared.verdict.Verdict.{Verdict}
use Rattle.alignment.specs.Number.{IsAlignment}
use Rattle.pool_core.specs.declared.item.Item.{Item}
use Rattle.pool_core.specs.declared.item.Item.TheVariants as item
use Rattle.pool_core.specs.History.{has_index, has_mined, has_tried}
use Rattle.pool_core.specs.Tables.{slot_of, Logged, TellsSamples, TellsTwo, AreTables, with_logged, IsUnlogged}

module _ {X : Type 0} where
  pub slice_get-set_same : (xs : List X) (i : ℕ) (x : X) → i < length xs → slice_get (set xs i x) i ≡ Some x
  slice_get-set_same [] i x within = absurd (omega arith)
  slice_get-set_same (y ∷ xs) zero x within = refl
  slice_get-set_same (y ∷ xs) (suc i) x within = slice_get-set_same xs i x (omega arith)

  pub slice_get-set_other : (xs : List X) (i j : ℕ) (x : X) → j ≢ i → slice_get (set xs i x) j ≡ slice_get xs j
  slice_get-set_other [] i j x other = refl
  slice_get-set_other (y ∷ xs) zero zero x other = absurd (other refl)
  slice_get-set_other (y ∷ xs) zero (suc j) x other = refl
  slice_get-set_other (y ∷ xs) (suc i) zero x other = refl
  slice_get-set_other (y ∷ xs) (suc i) (suc j) x other = slice_get-set_other xs i j x (λ e. other (ap suc e))

  pub slice_get-replicate : (n i : ℕ) (x : X) → i < n → slice_get (replicate n x) i ≡ Some x
  slice_get-replicate n i x within = grind (arith, common_steps, gets)

  -- One element more changes no first place, where it fails the test.
  pub position_kept : (p : X → Bool) (xs : List X) (y : X) → p y ≡ false → position p (xs ++ y ∷ []) ≡ position p xs
  position_kept p xs y fails = grind (arith, nat_tests, position_or_len_push, length_push)

  -- Where none passed before, it is the first that does.
  pub position_found : (p : X → Bool) (xs : List X) (y : X) → position p xs ≡ None → p y ≡ true
      → position p (xs ++ y ∷ []) ≡ Some (length xs)
  position_found p xs y none passes =
      let within = prefix_len-le-length (λ x. not (p x)) xs in
      grind (arith, nat_tests, position_or_len_push p xs y, length_push xs y)

-- ---- slots

-- A slot is within its table.
pub slot_below : (samples prefix alignment : ℕ) → prefix ≤ samples → IsAlignment alignment
    → slot_of prefix alignment < 12 * (samples + 1)
slot_below samples prefix alignment within named = omega (arith, named.least, named.most)

eqb_same : (a b : ℕ) → a ≡ b → eqb a b ≡ true
eqb_same a b same = grind (arith, nat_tests)

both_tests : (m k prefix alignment : ℕ) → prefix ≡ m → alignment ≡ k → (eqb m prefix && eqb k alignment) ≡ true
both_tests m k prefix alignment same_prefix same_alignment = grind (arith, nat_tests)

both_numbers : (m prefix k alignment : ℕ) → (eqb m prefix && eqb k alignment) ≡ true → (m ≡ prefix) × (k ≡ alignment)
both_numbers m prefix k alignment both = (grind (arith, nat_tests), grind (arith, nat_tests))

same_numbers : (m k prefix alignment : ℕ) → (eqb m prefix && eqb k alignment) ≡ true → slot_of prefix alignment ≡ slot_of m k
same_numbers m k prefix alignment both = grind (arith, nat_tests)

-- Two pairs of numbers with two slots are not one.
one_differs : (m k prefix alignment : ℕ) → slot_of prefix alignment ≢ slot_of m k → (eqb m prefix && eqb k alignment) ≡ false
one_differs m k prefix alignment differs = false_from_ne_true (eqb m prefix && eqb k alignment)
    (λ both. differs (same_numbers m k prefix alignment both))

-- ---- empty tables

pub tables_empty : (samples : ℕ)
    → AreTables (replicate samples None) (replicate (12 * (samples + 1)) None) (replicate (12 * (samples + 1)) None)
    (record { samples = samples; items = [] })
tables_empty samples = record {
  one_a_sample = length-replicate samples None;
  twelve_a_mined_prefix = length-replicate (12 * (samples + 1)) None;
  twelve_a_tried_prefix = length-replicate (12 * (samples + 1)) None;
  samples_told = λ index below. slice_get-replicate samples index None below;
  mined_told = λ prefix alignment within named. slice_get-replicate (12 * (samples + 1)) (slot_of prefix alignment) None
      (slot_below samples prefix alignment within named);
  tried_told = λ prefix alignment within named. slice_get-replicate (12 * (samples + 1)) (slot_of prefix alignment) None
      (slot_below samples prefix alignment within named);
}

-- ---- what a table is read to say

-- The slot of the sample, in a table that equals the one that tells.
pub sample_place : (slots read : List (Option ℕ)) (log now : Logged) (index : ℕ) → TellsSamples slots log → log ≡ now
    → read ≡ slots → index < now.samples → get_or read index None ≡ position (has_index index) now.items
sample_place slots read log now index told same is below =
    let at = subst (TellsSamples slots) same told in
    ap (λ (xs : List (Option ℕ)). get_or xs index None) is
    ∙ get_or_from_slice_get slots index (position (has_index index) now.items) None (at index below)

-- The slot of so many pairs and the alignment, likewise.
pub two_place : (has : ℕ → ℕ → Item → Bool) (slots read : List (Option ℕ)) (log now : Logged) (slot m k : ℕ)
    → TellsTwo has slots log → log ≡ now → read ≡ slots → slot ≡ slot_of m k → m ≤ now.samples → IsAlignment k
    → get_or read slot None ≡ position (has m k) now.items
two_place has slots read log now slot m k told same is slot_is within named =
    let at = subst (TellsTwo has slots) same told in
    ap (λ (xs : List (Option ℕ)). get_or xs slot None) is
    ∙ ap (λ (n : ℕ). get_or slots n None) slot_is
    ∙ get_or_from_slice_get slots (slot_of m k) (position (has m k) now.items) None (at m k within named)

-- ---- one item more

-- An item that fails all tests of a table changes nothing there.
samples_kept : (slots : List (Option ℕ)) (log : Logged) (next : Item) → ((index : ℕ) → has_index index next ≡ false)
    → TellsSamples slots log → TellsSamples slots (with_logged log next)
samples_kept slots log next fails told = λ index below.
    told index below ∙ ap Some (sym (position_kept (has_index index) log.items next (fails index)))

two_kept : (has : ℕ → ℕ → Item → Bool) (slots : List (Option ℕ)) (log : Logged) (next : Item)
    → ((prefix alignment : ℕ) → has prefix alignment next ≡ false)
    → TellsTwo has slots log → TellsTwo has slots (with_logged log next)
two_kept has slots log next fails told = λ prefix alignment within named.
    told prefix alignment within named
    ∙ ap Some (sym (position_kept (has prefix alignment) log.items next (fails prefix alignment)))

-- A slot that is set tells of the new item; each other slot tells what it told.
slot_set : (slots : List (Option ℕ)) (slot other : ℕ) (p : Item → Bool) (items : List Item) (next : Item)
    → slot < length slots → slice_get slots other ≡ Some (position p items)
    → ((other ≡ slot) × (p next ≡ true) × (position p items ≡ None)) ⊎ ((other ≢ slot) × (p next ≡ false))
    → slice_get (set slots slot (Some (length items))) other ≡ Some (position p (items ++ next ∷ []))
slot_set slots slot other p items next within told (inl same) =
    ap (slice_get (set slots slot (Some (length items)))) same.0
    ∙ slice_get-set_same slots slot (Some (length items)) within
    ∙ ap Some (sym (position_found p items next same.2 same.1))
slot_set slots slot other p items next within told (inr differs) =
    slice_get-set_other slots slot other (Some (length items)) differs.0
    ∙ told
    ∙ ap Some (sym (position_kept p items next differs.1))

-- The item of the sample is a new one.
samples_set : (slots : List (Option ℕ)) (log : Logged) (next : Item) (index : ℕ)
    → ((other : ℕ) → has_index other next ≡ eqb index other)
    → length slots ≡ log.samples → index < log.samples → position (has_index index) log.items ≡ None
    → TellsSamples slots log
    → TellsSamples (set slots index (Some (length log.items))) (with_logged log next)
samples_set slots log next index tests long below new told = λ other within.
    let at = λ (same : other ≡ index). subst (λ (k : ℕ). position (has_index k) log.items ≡ None) (sym same) new in
    slot_set slots index other (has_index other) log.items next (omega arith) (told other within)
    (⊎_elim
    (λ (same : other ≡ index). inl (same, tests other ∙ eqb_same index other (sym same), at same))
    (λ (differs : other ≢ index). inr (differs, tests other ∙ ne_eqb index other (λ e. differs (sym e))))
    (cases_eq other index))

-- Two pairs of numbers with one slot are one.
same_slot : (m k prefix alignment : ℕ) → IsAlignment k → IsAlignment alignment
    → slot_of prefix alignment ≡ slot_of m k → (prefix ≡ m) × (alignment ≡ k)
same_slot m k prefix alignment named other_named same =
    (omega (arith, named, other_named), omega (arith, named, other_named))

-- The item has so many pairs and the alignment.
two_set : (has : ℕ → ℕ → Item → Bool) (slots : List (Option ℕ)) (log : Logged) (next : Item) (m k : ℕ)
    → ((prefix alignment : ℕ) → has prefix alignment next ≡ (eqb m prefix && eqb k alignment))
    → length slots ≡ 12 * (log.samples + 1) → m ≤ log.samples → IsAlignment k
    → position (has m k) log.items ≡ None
    → TellsTwo has slots log
    → TellsTwo has (set slots (slot_of m k) (Some (length log.items))) (with_logged log next)
two_set has slots log next m k tests long below here new told = λ prefix alignment within named.
    let in_table : slot_of m k < length slots = subst (λ (n : ℕ). slot_of m k < n) (sym long) (slot_below log.samples m k below here) in
    slot_set slots (slot_of m k) (slot_of prefix alignment) (has prefix alignment) log.items next in_table (told prefix alignment within named)
    (⊎_elim
    (λ (same : slot_of prefix alignment ≡ slot_of m k).
    let both = same_slot m k prefix alignment here named same in
    inl (
      same,
      tests prefix alignment ∙ both_tests m k prefix alignment both.0 both.1,
      subst (λ (a : ℕ). position (has prefix a) log.items ≡ None) (sym both.1) (subst (λ (n : ℕ). position (has n k) log.items ≡ None) (sym both.0) new),
    ))
    (λ (differs : slot_of prefix alignment ≢ slot_of m k).
    inr (differs, tests prefix alignment ∙ one_differs m k prefix alignment differs))
    (cases_eq (slot_of prefix alignment) (slot_of m k)))

-- What equals the tables of a history with one item more are its tables.
pub tables_as : (samples_made samples_is mined_made mined_is tried_made tried_is : List (Option ℕ)) (log : Logged) (next : Item)
    (items : List Item) → samples_made ≡ samples_is → mined_made ≡ mined_is → tried_made ≡ tried_is
    → items ≡ log.items ++ next ∷ [] → AreTables samples_is mined_is tried_is (with_logged log next)
    → AreTables samples_made mined_made tried_made (record { samples = log.samples; items = items })
tables_as samples_made samples_is mined_made mined_is tried_made tried_is log next items samples mined tried longer are =
    let after : Logged = record { samples = log.samples; items = items } in
    let at_items = subst (λ (xs : List Item). AreTables samples_is mined_is tried_is (record { samples = log.samples; items = xs }))
    (sym longer) are in
    let at_tried = subst (λ (xs : List (Option ℕ)). AreTables samples_is mined_is xs after) (sym tried) at_items in
    let at_mined = subst (λ (xs : List (Option ℕ)). AreTables samples_is xs tried_made after) (sym mined) at_tried in
    subst (λ (xs : List (Option ℕ)). AreTables xs mined_made tried_made after) (sym samples) at_mined

-- ---- the tables after a push

module _ (of_samples of_mined of_tried : List (Option ℕ)) (log : Logged) where
  pub tables_pair : (worker index : ℕ) (pair : Pair) → AreTables of_samples of_mined of_tried log
      → IsUnlogged log (item.Pair worker index pair)
      → AreTables (set of_samples index (Some (length log.items))) of_mined of_tried (with_logged log (item.Pair worker index pair))
  tables_pair worker index pair are new = record {
    one_a_sample = length-set of_samples index (Some (length log.items)) ∙ are.one_a_sample;
    twelve_a_mined_prefix = are.twelve_a_mined_prefix;
    twelve_a_tried_prefix = are.twelve_a_tried_prefix;
    samples_told = samples_set of_samples log (item.Pair worker index pair) index (λ other. refl) are.one_a_sample new.0 new.1 are.samples_told;
    mined_told = two_kept has_mined of_mined log (item.Pair worker index pair) (λ prefix alignment. refl) are.mined_told;
    tried_told = two_kept has_tried of_tried log (item.Pair worker index pair) (λ prefix alignment. refl) are.tried_told;
  }

  pub tables_skipped : (worker index : ℕ) (skipped : Skipped) → AreTables of_samples of_mined of_tried log
      → IsUnlogged log (item.Skipped worker index skipped)
      → AreTables (set of_samples index (Some (length log.items))) of_mined of_tried (with_logged log (item.Skipped worker index skipped))
  tables_skipped worker index skipped are new = record {
    one_a_sample = length-set of_samples index (Some (length log.items)) ∙ are.one_a_sample;
    twelve_a_mined_prefix = are.twelve_a_mined_prefix;
    twelve_a_tried_prefix = are.twelve_a_tried_prefix;
    samples_told = samples_set of_samples log (item.Skipped worker index skipped) index (λ other. refl) are.one_a_sample new.0 new.1 are.samples_told;
    mined_told = two_kept has_mined of_mined log (item.Skipped worker index skipped) (λ prefix alignment. refl) are.mined_told;
    tried_told = two_kept has_tried of_tried log (item.Skipped worker index skipped) (λ prefix alignment. refl) are.tried_told;
  }

  pub tables_mined : (worker prefix alignment : ℕ) (candidates : Family) → AreTables of_samples of_mined of_tried log
      → IsAlignment alignment → IsUnlogged log (item.Mined worker prefix alignment candidates)
      → AreTables of_samples (set of_mined (slot_of prefix alignment) (Some (length log.items))) of_tried
      (with_logged log (item.Mined worker prefix alignment candidates))
  tables_mined worker prefix alignment candidates are named new = record {
    one_a_sample = are.one_a_sample;
    twelve_a_mined_prefix = length-set of_mined (slot_of prefix alignment) (Some (length log.items)) ∙ are.twelve_a_mined_prefix;
    twelve_a_tried_prefix = are.twelve_a_tried_prefix;
    samples_told = samples_kept of_samples log (item.Mined worker prefix alignment candidates) (λ other. refl) are.samples_told;
    mined_told = two_set has_mined of_mined log (item.Mined worker prefix alignment candidates) prefix alignment (λ m k. refl)
        are.twelve_a_mined_prefix new.0 named new.1 are.mined_told;
    tried_told = two_kept has_tried of_tried log (item.Mined worker prefix alignment candidates) (λ m k. refl) are.tried_told;
  }

  pub tables_tried : (worker prefix alignment : ℕ) (why : Why) → AreTables of_samples of_mined of_tried log
      → IsAlignment alignment → IsUnlogged log (item.Tried worker prefix alignment why)
      → AreTables of_samples of_mined (set of_tried (slot_of prefix alignment) (Some (length log.items)))
      (with_logged log (item.Tried worker prefix alignment why))
  tables_tried worker prefix alignment why are named new = record {
    one_a_sample = are.one_a_sample;
    twelve_a_mined_prefix = are.twelve_a_mined_prefix;
    twelve_a_tried_prefix = length-set of_tried (slot_of prefix alignment) (Some (length log.items)) ∙ are.twelve_a_tried_prefix;
    samples_told = samples_kept of_samples log (item.Tried worker prefix alignment why) (λ other. refl) are.samples_told;
    mined_told = two_kept has_mined of_mined log (item.Tried worker prefix alignment why) (λ m k. refl) are.mined_told;
    tried_told = two_set has_tried of_tried log (item.Tried worker prefix alignment why) prefix alignment (λ m k. refl)
        are.twelve_a_tried_prefix new.0 named new.1 are.tried_told;
  }

  pub tables_posted : (worker : ℕ) (verdict : Verdict) → AreTables of_samples of_mined of_tried log
      → AreTables of_samples of_mined of_tried (with_logged log (item.Posted worker verdict))
  tables_posted worker verdict are = record {
    one_a_sample = are.one_a_sample;
    twelve_a_mined_prefix = are.twelve_a_mined_prefix;
    twelve_a_tried_prefix = are.twelve_a_tried_prefix;
    samples_told = samples_kept of_samples log (item.Posted worker verdict) (λ other. refl) are.samples_told;
    mined_told = two_kept has_mined of_mined log (item.Posted worker verdict) (λ m k. refl) are.mined_told;
    tried_told = two_kept has_tried of_tried log (item.Posted worker verdict) (λ m k. refl) are.tried_told;
  }

  -- ---- the same, by the test of its table

  pub tables_of_sample : (next : Item) (index : ℕ) → has_index index next ≡ true
      → AreTables of_samples of_mined of_tried log → IsUnlogged log next
      → AreTables (set of_samples index (Some (length log.items))) of_mined of_tried (with_logged log next)
  tables_of_sample (item.Pair worker own pair) index of are new =
      subst (λ (k : ℕ). AreTables (set of_samples k (Some (length log.items))) of_mined of_tried (with_logged log (item.Pair worker own pair)))
      (eqb-true own index of) (tables_pair worker own pair are new)
  tables_of_sample (item.Skipped worker own skipped) index of are new =
      subst (λ (k : ℕ). AreTables (set of_samples k (Some (length log.items))) of_mined of_tried (with_logged log (item.Skipped worker own skipped)))
      (eqb-true own index of) (tables_skipped worker own skipped are new)
  tables_of_sample (item.Mined worker prefix alignment candidates) index of are new = absurd (false≢true of)
  tables_of_sample (item.Tried worker prefix alignment why) index of are new = absurd (false≢true of)
  tables_of_sample (item.Posted worker verdict) index of are new = absurd (false≢true of)

  pub tables_of_mined : (next : Item) (m k : ℕ) → has_mined m k next ≡ true → IsAlignment k
      → AreTables of_samples of_mined of_tried log → IsUnlogged log next
      → AreTables of_samples (set of_mined (slot_of m k) (Some (length log.items))) of_tried (with_logged log next)
  tables_of_mined (item.Mined worker prefix alignment candidates) m k of named are new =
      let both = both_numbers prefix m alignment k of in
      subst (λ (slot : ℕ). AreTables of_samples (set of_mined slot (Some (length log.items))) of_tried
      (with_logged log (item.Mined worker prefix alignment candidates)))
      (same_numbers m k prefix alignment (both_tests m k prefix alignment both.0 both.1))
      (tables_mined worker prefix alignment candidates are (subst IsAlignment (sym both.1) named) new)
  tables_of_mined (item.Pair worker index pair) m k of named are new = absurd (false≢true of)
  tables_of_mined (item.Skipped worker index skipped) m k of named are new = absurd (false≢true of)
  tables_of_mined (item.Tried worker prefix alignment why) m k of named are new = absurd (false≢true of)
  tables_of_mined (item.Posted worker verdict) m k of named are new = absurd (false≢true of)

  pub tables_of_tried : (next : Item) (m k : ℕ) → has_tried m k next ≡ true → IsAlignment k
      → AreTables of_samples of_mined of_tried log → IsUnlogged log next
      → AreTables of_samples of_mined (set of_tried (slot_of m k) (Some (length log.items))) (with_logged log next)
  tables_of_tried (item.Tried worker prefix alignment why) m k of named are new =
      let both = both_numbers prefix m alignment k of in
      subst (λ (slot : ℕ). AreTables of_samples of_mined (set of_tried slot (Some (length log.items)))
      (with_logged log (item.Tried worker prefix alignment why)))
      (same_numbers m k prefix alignment (both_tests m k prefix alignment both.0 both.1))
      (tables_tried worker prefix alignment why are (subst IsAlignment (sym both.1) named) new)
  tables_of_tried (item.Pair worker index pair) m k of named are new = absurd (false≢true of)
  tables_of_tried (item.Skipped worker index skipped) m k of named are new = absurd (false≢true of)
  tables_of_tried (item.Mined worker prefix alignment candidates) m k of named are new = absurd (false≢true of)
  tables_of_tried (item.Posted worker verdict) m k of named are new = absurd (false≢true of)
