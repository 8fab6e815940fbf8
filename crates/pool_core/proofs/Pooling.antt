-- What a pool keeps beside its history stays so where an item is added.
use Rattle.std.proofs.Common.{◌≡◌, ◌≢◌, ◌↔◌, ℕ, suc, ◌<◌, ◌≤◌, ◌-◌, Bool, true, false, List, [], ◌∷◌, ◌++◌, length, map, take, Option, Some, None, ℤ, refl, sym, ap, ◌∙◌, subst, arith, is_some, append-nil}
use Rattle.std.specs.Prelude.{All, Contains, position, slice_get, ◌==◌}
use Rattle.std.proofs.lemmas.Bool.Decides.{nat_tests}
use Rattle.std.specs.List.{list_any, AllZip}
use Rattle.std.proofs.lemmas.List.{length-map}
use Rattle.std.proofs.lemmas.List.Elements.{All-nil, All-cons}
use Rattle.std.proofs.lemmas.Slice.Zip.{AllZip-long}
use Rattle.c_ast.specs.declared.trace.Pair.{Pair}
use Rattle.c_ast.specs.Comparison.{Comparison}
use Rattle.horn_clauses.specs.declared.family.Family.{Family}
use Rattle.horn_clauses.specs.Family.{atoms_at}
use Rattle.trace_pair.specs.declared.skipped.Skipped.{Skipped}
use Rattle.trace_pair.specs.Pairs.{IsPair}
use Rattle.trace_pair.proofs.Laws.{one_pair, pair_is_no_skip}
use Rattle.walks.specs.Laws.{IsNarrowPair}
use Rattle.pool_core.specs.declared.item.Item.{Item}
use Rattle.pool_core.specs.declared.item.Item.TheVariants as item
use Rattle.pool_core.specs.declared.pages.Added.{Added}
use Rattle.pool_core.specs.declared.lives.Front.{Front}
use Rattle.pool_core.specs.declared.verdict.Why.{Why}
use Rattle.pool_core.specs.declared.verdict.Verdict.TheVariants as verdict
use Rattle.pool_core.specs.declared.verdict.SampleWhy.{SampleWhy}
use Rattle.pool_core.specs.Candidates.{IsDrawnFrom}
use Rattle.pool_core.specs.History.{pairs_of, indexes_of, workers_of, verdict_of, has_index, has_mined, has_tried, HasPair, MayFollow, IsLegal}
use Rattle.pool_core.specs.Justified.{ArePairsAt}
use Rattle.pool_core.specs.Plays.{State, Snapshot, snapshot_of, IsDrawnFromMined}
use Rattle.pool_core.specs.Tables.{Logged, most_items, with_logged, IsUnlogged}
use Rattle.pool_core.specs.Beside.{added_of, AreFronts, IsKept, IsPairOf, HasDrawn}
use Rattle.pool_core.proofs.Histories.{items_follow, histories_go_on, pair_of_legal}
use Rattle.pool_core.proofs.Sampled.{pairs_are_at}
use Rattle.pool_core.proofs.FewPairs.{pairs_are_few}
use Rattle.pool_core.proofs.Room.{room_left}
use Rattle.pool_core.proofs.Narrow.{pair_is_narrow}
use Rattle.pool_core.proofs.Closing.{verdict_in, verdict_at, last_verdict, mined_once}
use Rattle.pool_core.proofs.Comparing.{front_shorter}
use Rattle.pool_core.proofs.Finding.{any_of, same_numbers, mined_passes}
use Rattle.pool_core.proofs.Listings.{one_of}
use Rattle.pool_core.proofs.Concluding.{posted_stands}
use Rattle.pool_core.proofs.Standing.{stands_one, pairs_of-append, any_mined_there, pair_there, skip_there}
use Rattle.pool_core.proofs.Places.{passes_somewhere}
use Rattle.pool_core.proofs.Beside.{pairs_added, indexes_added, workers_added, added_append, added_with_pair, fronts_go_on}

-- ---- slots

nowhere : (o : Option ℕ) → is_some o ≡ false → o ≡ None
nowhere None fails = refl
nowhere (Some k) fails = absurd cc

-- Where none passes, none has a place.
pub no_place : (p : Item → Bool) (items : List Item) → list_any p items ≡ false → position p items ≡ None
no_place p items none = nowhere (position p items) (passes_somewhere p items ∙ none)

module _ (subject : Comparison) (log : Logged) (same : log.samples ≡ subject.settings.samples) (legal : IsLegal subject log.items) where
  pub few : length (pairs_of log.items) ≤ log.samples
  few = subst (λ (n : ℕ). length (pairs_of log.items) ≤ n) (sym same) (pairs_are_few subject log.items legal)

  -- An item that may follow has an empty slot.
  pub unlogged : (next : Item) → MayFollow subject log.items next → IsUnlogged log next
  unlogged (item.Pair worker index pair) may = (
    subst (λ (n : ℕ). index < n) (sym same) may.1.0.below,
    no_place (has_index index) log.items may.1.0.new,
  )
  unlogged (item.Skipped worker index skipped) may = (
    subst (λ (n : ℕ). index < n) (sym same) may.1.0.below,
    no_place (has_index index) log.items may.1.0.new,
  )
  unlogged (item.Mined worker prefix alignment candidates) may = (
    omega (arith, may.1.there, few),
    no_place (has_mined prefix alignment) log.items may.1.new,
  )
  unlogged (item.Tried worker prefix alignment why) may =
      let there = any_mined_there subject log.items prefix alignment legal may.1.mined in (
        omega (arith, there.1.there, few),
        no_place (has_tried prefix alignment) log.items may.1.new,
      )
  unlogged (item.Posted worker verdict) may = tt

  -- There is room for it.
  pub has_room : (next : Item) → MayFollow subject log.items next → length log.items < most_items log.samples
  has_room next may =
      subst (λ (n : ℕ). length log.items < most_items n) (sym same) (room_left subject log.items next legal may)

-- ---- one item more

-- What is no pair adds none.
no_pairs : (next : Item) → added_of (next ∷ []) ≡ [] → pairs_of (next ∷ []) ≡ []
no_pairs (item.Pair worker index pair) none = absurd cc
no_pairs (item.Skipped worker index skipped) none = refl
no_pairs (item.Mined worker prefix alignment candidates) none = refl
no_pairs (item.Tried worker prefix alignment why) none = refl
no_pairs (item.Posted worker verdict) none = refl

module _ (subject : Comparison) (log : Logged) (pairs : List Added) (fronts : List Front) (kept : IsKept subject log pairs fronts) where
  -- All is kept where an item that is no pair is added.
  pub kept_on : (next : Item) → MayFollow subject log.items next → added_of (next ∷ []) ≡ []
      → IsKept subject (with_logged log next) pairs fronts
  kept_on next may none = record {
    legal = histories_go_on subject log.items next kept.legal may;
    samples = kept.samples;
    own = kept.own ∙ sym (added_append log.items (next ∷ []) ∙ ap (λ (more : List Added). added_of log.items ++ more) none
        ∙ append-nil (added_of log.items));
    fronts_are = subst (λ (all : List Pair). AreFronts subject all fronts)
        (sym (pairs_of-append log.items (next ∷ []) ∙ ap (λ (more : List Pair). pairs_of log.items ++ more) (no_pairs next none)
        ∙ append-nil (pairs_of log.items))) kept.fronts_are;
  }

  -- So it is where a pair is added to both.
  pub kept_with : (worker index : ℕ) (pair : Pair) → MayFollow subject log.items (item.Pair worker index pair)
      → IsKept subject (with_logged log (item.Pair worker index pair)) (pairs ++ record { worker = worker; index = index; pair = pair } ∷ []) fronts
  kept_with worker index pair may = record {
    legal = histories_go_on subject log.items (item.Pair worker index pair) kept.legal may;
    samples = kept.samples;
    own = ap (λ (all : List Added). all ++ record { worker = worker; index = index; pair = pair } ∷ []) kept.own
        ∙ sym (added_with_pair log.items worker index pair);
    fronts_are = subst (λ (all : List Pair). AreFronts subject all fronts) (sym (pairs_of-append log.items (item.Pair worker index pair ∷ [])))
        (fronts_go_on subject (pairs_of log.items) pair fronts kept.fronts_are);
  }

  -- ---- what is handed out

  pub kept_indexes : map (λ (added : Added). added.index) pairs ≡ indexes_of log.items
  kept_indexes = ap (λ (all : List Added). map (λ (added : Added). added.index) all) kept.own ∙ indexes_added log.items

  pub kept_pairs : map (λ (added : Added). added.pair) pairs ≡ pairs_of log.items
  kept_pairs = ap (λ (all : List Added). map (λ (added : Added). added.pair) all) kept.own ∙ pairs_added log.items

  -- The pairs are those of their indexes.
  pub kept_at : ArePairsAt subject (map (λ (added : Added). added.index) pairs) (map (λ (added : Added). added.pair) pairs)
  kept_at =
      subst (λ (indexes : List ℕ). ArePairsAt subject indexes (map (λ (added : Added). added.pair) pairs)) (sym kept_indexes)
      (subst (λ (all : List Pair). ArePairsAt subject (indexes_of log.items) all) (sym kept_pairs) (pairs_are_at subject log.items kept.legal))

-- A snapshot of these parts.
abbrev snapshot : Comparison → List ℕ → List Pair → Snapshot
snapshot subject indexes pairs = record { subject = subject; indexes = indexes; pairs = pairs }

module _ (subject : Comparison) (log : Logged) (pairs : List Added) (fronts : List Front) (kept : IsKept subject log pairs fronts) where
  -- Of copies of the subject and the pairs it is that of the pool.
  pub kept_snapshot : (own : Comparison) (all : List Added) → own ≡ subject → all ≡ pairs
      → snapshot own (map (λ (added : Added). added.index) all) (map (λ (added : Added). added.pair) all)
      ≡ snapshot_of (record { subject = subject; items = log.items })
  kept_snapshot own all same copied =
      ap (λ (s : Comparison). snapshot s (map (λ (added : Added). added.index) all) (map (λ (added : Added). added.pair) all)) same
      ∙ ap (λ (xs : List Added). snapshot subject (map (λ (added : Added). added.index) xs) (map (λ (added : Added). added.pair) xs)) copied
      ∙ ap (λ (indexes : List ℕ). snapshot subject indexes (map (λ (added : Added). added.pair) pairs)) (kept_indexes subject log pairs fronts kept)
      ∙ ap (λ (ps : List Pair). snapshot subject (indexes_of log.items) ps) (kept_pairs subject log pairs fronts kept)

  -- The fronts are those of the pairs as they are kept.
  pub kept_mapped : AreFronts subject (map (λ (added : Added). added.pair) pairs) fronts
  kept_mapped = subst (λ (ps : List Pair). AreFronts subject ps fronts) (sym (kept_pairs subject log pairs fronts kept)) kept.fronts_are

  -- Others of these pairs may take their place.
  pub kept_again : (others : List Front) → AreFronts subject (map (λ (added : Added). added.pair) pairs) others → IsKept subject log pairs others
  kept_again others are = record {
    legal = kept.legal;
    samples = kept.samples;
    own = kept.own;
    fronts_are = subst (λ (ps : List Pair). AreFronts subject ps others) (kept_pairs subject log pairs fronts kept) are;
  }

  -- There are at most as many pairs as samples.
  pub kept_few : length (pairs_of log.items) ≤ log.samples
  kept_few = few subject log kept.samples kept.legal

  pub kept_count : length pairs ≡ length (pairs_of log.items)
  kept_count =
      sym (length-map pairs (λ (added : Added). added.pair))
      ∙ ap (λ (ps : List Pair). length ps) (kept_pairs subject log pairs fronts kept)

narrow_zipped : (subject : Comparison) (added : List Added)
    → AllZip (IsPair subject) (map (λ (each : Added). each.index) added) (map (λ (each : Added). each.pair) added)
    → All (λ (each : Added). IsNarrowPair each.pair) added
narrow_zipped subject [] are = All-nil (λ (each : Added). IsNarrowPair each.pair)
narrow_zipped subject (first ∷ added) are =
    All-cons (λ (each : Added). IsNarrowPair each.pair) first added (pair_is_narrow subject first.index first.pair are.0)
    (narrow_zipped subject added are.1)

-- All of them are narrow.
pub kept_narrow : (subject : Comparison) (log : Logged) (pairs : List Added) (fronts : List Front) → IsKept subject log pairs fronts
    → All (λ (each : Added). IsNarrowPair each.pair) pairs
kept_narrow subject log pairs fronts kept = narrow_zipped subject pairs (kept_at subject log pairs fronts kept).are

-- ---- what is looked up

-- The pair of an index is one.
pub seen_pair : (subject : Comparison) (items : List Item) (index worker own : ℕ) (pair : Pair) (input : List ℤ) (first second : ℤ)
    → IsLegal subject items → Contains items (item.Pair worker own pair) → own ≡ index
    → (pair.input ≡ input) × (pair.first.result ≡ first) × (pair.second.result ≡ second) ↔ HasPair items index input first second
seen_pair subject items index worker own pair input first second legal has same = (
  λ is. record {
    worker = worker;
    pair = pair;
    stands = subst (λ (i : ℕ). Contains items (item.Pair worker i pair)) same has;
    input_is = is.0;
    first_is = is.1;
    second_is = is.2;
  },
  λ seen.
      let here = pair_there subject items worker index pair legal (subst (λ (i : ℕ). Contains items (item.Pair worker i pair)) same has) in
      let there = pair_there subject items seen.worker index seen.pair legal seen.stands in
      let one : pair ≡ seen.pair = one_pair subject index pair seen.pair here there in (
        ap (λ (p : Pair). p.input) one ∙ seen.input_is,
        ap (λ (p : Pair). p.first.result) one ∙ seen.first_is,
        ap (λ (p : Pair). p.second.result) one ∙ seen.second_is,
      ),
)

-- A sample that is skipped has no pair.
pub not_seen : (subject : Comparison) (items : List Item) (index worker own : ℕ) (skipped : Skipped) (input : List ℤ) (first second : ℤ)
    → IsLegal subject items → Contains items (item.Skipped worker own skipped) → own ≡ index → HasPair items index input first second → ⊥
not_seen subject items index worker own skipped input first second legal has same seen =
    pair_is_no_skip subject index seen.pair skipped (pair_there subject items seen.worker index seen.pair legal seen.stands)
    (skip_there subject items worker index skipped legal (subst (λ (i : ℕ). Contains items (item.Skipped worker i skipped)) same has))

-- Nor has an index that is none of a sample.
pub no_seen : (subject : Comparison) (items : List Item) (index : ℕ) (input : List ℤ) (first second : ℤ) → IsLegal subject items
    → HasPair items index input first second → index < subject.settings.samples
no_seen subject items index input first second legal seen = (pair_of_legal subject items seen.worker index seen.pair legal seen.stands).0

-- The candidates of so many pairs under an alignment are one family.
pub drawn_mined : (state : State) (worker m k prefix alignment : ℕ) (candidates family : Family) → IsLegal state.subject state.items
    → Contains state.items (item.Mined worker prefix alignment candidates) → prefix ≡ m → alignment ≡ k
    → IsDrawnFrom (atoms_at candidates) family ↔ IsDrawnFromMined state m k family
drawn_mined state worker m k prefix alignment candidates family legal has same under =
    let here = subst (λ (i : ℕ). Contains state.items (item.Mined worker m i candidates)) under
    (subst (λ (i : ℕ). Contains state.items (item.Mined worker i alignment candidates)) same has) in (
      λ drawn. record { worker = worker; candidates = candidates; stands = here; drawn = drawn },
      λ mined.
          let one : candidates ≡ mined.candidates =
          mined_once state.subject m k state.items worker mined.worker candidates mined.candidates legal here mined.stands in
          subst (λ (c : Family). IsDrawnFrom (atoms_at c) family) (sym one) mined.drawn,
    )

-- Where nothing was mined, nothing is drawn.
pub none_drawn : (state : State) (m k : ℕ) (family : Family) → IsDrawnFromMined state m k family
    → list_any (has_mined m k) state.items ≡ true
none_drawn state m k family mined = mined_passes state.items mined.worker m k mined.candidates mined.stands

-- ---- what is asked

as_many : (items : List Item) → length (indexes_of items) ≡ length (pairs_of items)
as_many [] = refl
as_many (item.Pair worker index pair ∷ items) = ap suc (as_many items)
as_many (item.Skipped worker index skipped ∷ items) = as_many items
as_many (item.Mined worker prefix alignment candidates ∷ items) = as_many items
as_many (item.Tried worker prefix alignment why ∷ items) = as_many items
as_many (item.Posted worker verdict ∷ items) = as_many items

-- As many indexes as a front of the history's are no more than its pairs.
pub few_of : (items : List Item) (indexes : List ℕ) → indexes ≡ take (length indexes) (indexes_of items)
    → length indexes ≤ length (pairs_of items)
few_of items indexes first = omega (arith, front_shorter indexes (indexes_of items) first, as_many items)

-- So are the pairs of a snapshot that has them.
pub few_pairs : (subject : Comparison) (items : List Item) (indexes : List ℕ) (pairs : List Pair) → ArePairsAt subject indexes pairs
    → indexes ≡ take (length indexes) (indexes_of items) → length pairs ≤ length (pairs_of items)
few_pairs subject items indexes pairs at first =
    let long : length pairs ≡ length indexes = AllZip-long (IsPair subject) indexes pairs at.are in
    omega (arith, long, few_of items indexes first)

pub kept_workers : (subject : Comparison) (log : Logged) (pairs : List Added) (fronts : List Front) → IsKept subject log pairs fronts
    → map (λ (added : Added). added.worker) pairs ≡ workers_of log.items
kept_workers subject log pairs fronts kept =
    ap (λ (all : List Added). map (λ (added : Added). added.worker) all) kept.own ∙ workers_added log.items

alone : (x : Item) → verdict_of (x ∷ []) ≡ verdict_in x
alone (item.Pair worker index pair) = refl
alone (item.Skipped worker index skipped) = refl
alone (item.Mined worker prefix alignment candidates) = refl
alone (item.Tried worker prefix alignment why) = refl
alone (item.Posted worker verdict) = refl

-- The verdict is that of the last item.
pub last_one : (subject : Comparison) (items : List Item) (last : Item) → IsLegal subject items
    → Some last ≡ slice_get items (length items - 1) → verdict_of (last ∷ []) ≡ verdict_of items
last_one subject items last legal found =
    alone last ∙ ap (λ (o : Option Item). verdict_at o) found ∙ sym (last_verdict subject items legal)

-- A verdict that stands is not that nothing is decided.
pub never_unknown : (subject : Comparison) (items : List Item) (samples : List SampleWhy) (alignments : List Why) → IsLegal subject items
    → verdict_of items ≡ Some (verdict.Unknown samples alignments) → ⊥
never_unknown subject items samples alignments legal is =
    let at = posted_stands items (verdict.Unknown samples alignments) is in
    let stands = stands_one items (item.Posted at.0 (verdict.Unknown samples alignments)) at.1 in
    let may = items_follow subject stands.front (item.Posted at.0 (verdict.Unknown samples alignments)) stands.behind
    (subst (λ (xs : List Item). IsLegal subject xs) stands.is legal) in
    may.1

index_is : (index worker own : ℕ) (pair : Pair) → has_index index (item.Pair worker own pair) ≡ true → own ≡ index
index_is index worker own pair passes = grind (arith, nat_tests)

-- The sample's item is such a pair exactly where there is one.
pub seen_at : (subject : Comparison) (items : List Item) (index : ℕ) (found : Item) (input : List ℤ) (first second : ℤ)
    → IsLegal subject items → Contains items found → has_index index found ≡ true
    → IsPairOf found input first second ↔ HasPair items index input first second
seen_at subject items index (item.Pair worker own pair) input first second legal has passes =
    let same = index_is index worker own pair passes in
    let one = seen_pair subject items index worker own pair input first second legal has same in (
      λ is. one.0 (by is),
      λ seen. let parts = one.1 seen in record {
        worker = worker;
        index = own;
        pair = pair;
        is = refl;
        input_is = parts.0;
        first_is = parts.1;
        second_is = parts.2;
      },
    )
  where
    by : IsPairOf (item.Pair worker own pair) input first second
        → (pair.input ≡ input) × (pair.first.result ≡ first) × (pair.second.result ≡ second)
    by is =
        let p : pair ≡ is.pair = let e = is.is in cc in (
          ap (λ (q : Pair). q.input) p ∙ is.input_is,
          ap (λ (q : Pair). q.first.result) p ∙ is.first_is,
          ap (λ (q : Pair). q.second.result) p ∙ is.second_is,
        )
seen_at subject items index (item.Skipped worker own skipped) input first second legal has passes = (
  λ is. absurd (let e = is.is in cc),
  λ seen. absurd (not_seen subject items index worker own skipped input first second legal has (skip_index index worker own skipped passes) seen),
)
  where
    skip_index : (index worker own : ℕ) (skipped : Skipped) → has_index index (item.Skipped worker own skipped) ≡ true → own ≡ index
    skip_index index worker own skipped passes = grind (arith, nat_tests)
seen_at subject items index (item.Mined worker prefix alignment candidates) input first second legal has passes = absurd cc
seen_at subject items index (item.Tried worker prefix alignment why) input first second legal has passes = absurd cc
seen_at subject items index (item.Posted worker found) input first second legal has passes = absurd cc

-- A pair that is seen has an item of its sample.
pub seen_there : (items : List Item) (index : ℕ) (input : List ℤ) (first second : ℤ) → HasPair items index input first second
    → list_any (has_index index) items ≡ true
seen_there items index input first second seen =
    any_of (has_index index) items (item.Pair seen.worker index seen.pair) (one_of items (item.Pair seen.worker index seen.pair) seen.stands)
    (same_index index)
  where
    same_index : (i : ℕ) → (i == i) ≡ true
    same_index i = grind (arith, nat_tests)

-- The candidates' item has such a family exactly where it is drawn from what was mined.
pub drawn_at : (state : State) (m k : ℕ) (found : Item) (family : Family) → IsLegal state.subject state.items → Contains state.items found
    → has_mined m k found ≡ true → HasDrawn found family ↔ IsDrawnFromMined state m k family
drawn_at state m k (item.Mined worker prefix alignment candidates) family legal has passes =
    let same = same_numbers prefix m alignment k passes in
    let one = drawn_mined state worker m k prefix alignment candidates family legal has same.0 same.1 in (
      λ is. one.0 (by is),
      λ mined. record {
        worker = worker;
        prefix = prefix;
        alignment = alignment;
        candidates = candidates;
        is = refl;
        drawn = one.1 mined;
      },
    )
  where
    by : HasDrawn (item.Mined worker prefix alignment candidates) family → IsDrawnFrom (atoms_at candidates) family
    by is =
        let c : candidates ≡ is.candidates = let e = is.is in cc in
        subst (λ (g : Family). IsDrawnFrom (atoms_at g) family) (sym c) is.drawn
drawn_at state m k (item.Pair worker index pair) family legal has passes = absurd cc
drawn_at state m k (item.Skipped worker index skipped) family legal has passes = absurd cc
drawn_at state m k (item.Tried worker prefix alignment why) family legal has passes = absurd cc
drawn_at state m k (item.Posted worker found) family legal has passes = absurd cc

-- What is seen of an input is seen of an equal one.
pub seen_of : {first second : ℤ} (items : List Item) (index : ℕ) (given input : List ℤ) → given ≡ input
    → HasPair items index given first second × (first ≢ second) → HasPair items index input first second × (first ≢ second)
seen_of {first} {second} items index given input same seen =
    (subst (λ (values : List ℤ). HasPair items index values first second) same seen.0, seen.1)
