-- The pairs of a legal history are those of its indexes, each of which comes once.
use Rattle.std.proofs.Common.{◌≡◌, ℕ, ◌<◌, ◌==◌, true, false, List, [], ◌∷◌, ◌++◌, length, take, refl, sym, ap, ◌∙◌, subst, arith}
use Rattle.std.specs.Prelude.{◌≢◌}
use Rattle.std.specs.List.{list_any, AllZip}
use Rattle.std.proofs.lemmas.List.Folds.{list_any-append}
use Rattle.std.proofs.lemmas.Slice.Zip.{AllZip-long}
use Rattle.std.proofs.lemmas.Bool.{or_left, or_right}
use Rattle.std.proofs.lemmas.Bool.Decides.{nat_tests}
use Rattle.c_ast.specs.declared.trace.Pair.{Pair}
use Rattle.c_ast.specs.Comparison.{Comparison}
use Rattle.trace_pair.specs.Pairs.{IsPair}
use Rattle.trace_pair.proofs.Laws.{one_pair}
use Rattle.pool_core.specs.declared.item.Item.{Item}
use Rattle.pool_core.specs.declared.item.Item.TheVariants as item
use Rattle.pool_core.specs.Justified.{ArePairsAt}
use Rattle.pool_core.specs.History.{pairs_of, indexes_of, has_index, IsLegalBehind, IsLegal}
use Rattle.pool_core.specs.Plays.{State, Snapshot, IsSnapshot, HasFirstPairs}
use Rattle.pool_core.proofs.Listings.{Each, IsListed, each_of, all_of, listed_of, pairs_of_listed, each_front, listed_front, zip_front}

same_index : (i : ℕ) → (i == i) ≡ true
same_index i = grind (arith, nat_tests)

module _ (subject : Comparison) where
  abbrev IsBelow : ℕ → Type 0
  IsBelow index = index < subject.settings.samples

  each_below : (before items : List Item) → IsLegalBehind subject before items → Each IsBelow (indexes_of items)
  each_below before [] legal = tt
  each_below before (item.Pair worker index pair ∷ items) legal =
      (legal.0.1.0.below, each_below (before ++ item.Pair worker index pair ∷ []) items legal.1)
  each_below before (item.Skipped worker index skipped ∷ items) legal =
      each_below (before ++ item.Skipped worker index skipped ∷ []) items legal.1
  each_below before (item.Mined worker prefix alignment candidates ∷ items) legal =
      each_below (before ++ item.Mined worker prefix alignment candidates ∷ []) items legal.1
  each_below before (item.Tried worker prefix alignment why ∷ items) legal =
      each_below (before ++ item.Tried worker prefix alignment why ∷ []) items legal.1
  each_below before (item.Posted worker verdict ∷ items) legal = each_below (before ++ item.Posted worker verdict ∷ []) items legal.1

  zipped : (before items : List Item) → IsLegalBehind subject before items → AllZip (IsPair subject) (indexes_of items) (pairs_of items)
  zipped before [] legal = tt
  zipped before (item.Pair worker index pair ∷ items) legal =
      (legal.0.1.1, zipped (before ++ item.Pair worker index pair ∷ []) items legal.1)
  zipped before (item.Skipped worker index skipped ∷ items) legal = zipped (before ++ item.Skipped worker index skipped ∷ []) items legal.1
  zipped before (item.Mined worker prefix alignment candidates ∷ items) legal =
      zipped (before ++ item.Mined worker prefix alignment candidates ∷ []) items legal.1
  zipped before (item.Tried worker prefix alignment why ∷ items) legal = zipped (before ++ item.Tried worker prefix alignment why ∷ []) items legal.1
  zipped before (item.Posted worker verdict ∷ items) legal = zipped (before ++ item.Posted worker verdict ∷ []) items legal.1

  stays : (i : ℕ) (before : List Item) (next : Item) → list_any (has_index i) before ≡ true → list_any (has_index i) (before ++ next ∷ []) ≡ true
  stays i before next there =
      list_any-append (has_index i) before (next ∷ []) ∙ or_left (list_any (has_index i) before) (list_any (has_index i) (next ∷ [])) there

  comes : (before : List Item) (worker i : ℕ) (pair : Pair) → list_any (has_index i) (before ++ item.Pair worker i pair ∷ []) ≡ true
  comes before worker i pair =
      list_any-append (has_index i) before (item.Pair worker i pair ∷ [])
      ∙ or_right (list_any (has_index i) before) (list_any (has_index i) (item.Pair worker i pair ∷ [])) (or_left (i == i) false (same_index i))

  -- An index of which something was said is none of the later ones.
  not_again : (i : ℕ) (before items : List Item) → list_any (has_index i) before ≡ true → IsLegalBehind subject before items
      → Each (λ j. i ≢ j) (indexes_of items)
  not_again i before [] there legal = tt
  not_again i before (item.Pair worker index pair ∷ items) there legal = (
    λ same. let new : list_any (has_index i) before ≡ false = subst (λ (n : ℕ). list_any (has_index n) before ≡ false) (sym same) legal.0.1.0.new in
        let clash : true ≡ false = sym there ∙ new in cc,
    not_again i (before ++ item.Pair worker index pair ∷ []) items (stays i before (item.Pair worker index pair) there) legal.1,
  )
  not_again i before (item.Skipped worker index skipped ∷ items) there legal =
      not_again i (before ++ item.Skipped worker index skipped ∷ []) items (stays i before (item.Skipped worker index skipped) there) legal.1
  not_again i before (item.Mined worker prefix alignment candidates ∷ items) there legal =
      not_again i (before ++ item.Mined worker prefix alignment candidates ∷ []) items
      (stays i before (item.Mined worker prefix alignment candidates) there) legal.1
  not_again i before (item.Tried worker prefix alignment why ∷ items) there legal =
      not_again i (before ++ item.Tried worker prefix alignment why ∷ []) items (stays i before (item.Tried worker prefix alignment why) there) legal.1
  not_again i before (item.Posted worker verdict ∷ items) there legal =
      not_again i (before ++ item.Posted worker verdict ∷ []) items (stays i before (item.Posted worker verdict) there) legal.1

  pub listed_apart : (before items : List Item) → IsLegalBehind subject before items → IsListed (λ i j. i ≢ j) (indexes_of items)
  listed_apart before [] legal = tt
  listed_apart before (item.Pair worker index pair ∷ items) legal = (
    not_again index (before ++ item.Pair worker index pair ∷ []) items (comes before worker index pair) legal.1,
    listed_apart (before ++ item.Pair worker index pair ∷ []) items legal.1,
  )
  listed_apart before (item.Skipped worker index skipped ∷ items) legal =
      listed_apart (before ++ item.Skipped worker index skipped ∷ []) items legal.1
  listed_apart before (item.Mined worker prefix alignment candidates ∷ items) legal =
      listed_apart (before ++ item.Mined worker prefix alignment candidates ∷ []) items legal.1
  listed_apart before (item.Tried worker prefix alignment why ∷ items) legal =
      listed_apart (before ++ item.Tried worker prefix alignment why ∷ []) items legal.1
  listed_apart before (item.Posted worker verdict ∷ items) legal = listed_apart (before ++ item.Posted worker verdict ∷ []) items legal.1

  pub pairs_are_at : (items : List Item) → IsLegal subject items → ArePairsAt subject (indexes_of items) (pairs_of items)
  pairs_are_at items legal = record {
    below = all_of IsBelow (indexes_of items) (each_below [] items legal);
    distinct = pairs_of_listed (λ i j. i ≢ j) (indexes_of items) (listed_apart [] items legal);
    are = zipped [] items legal;
  }

  -- So are the first ones of pairs and indexes.
  pub first_are_at : (m : ℕ) (indexes : List ℕ) (pairs : List Pair) → ArePairsAt subject indexes pairs
      → ArePairsAt subject (take m indexes) (take m pairs)
  first_are_at m indexes pairs at = record {
    below = all_of IsBelow (take m indexes) (each_front IsBelow m indexes (each_of IsBelow indexes at.below));
    distinct = pairs_of_listed (λ i j. i ≢ j) (take m indexes)
        (listed_front (λ i j. i ≢ j) m indexes (listed_of (λ i j. i ≢ j) indexes at.distinct));
    are = zip_front (IsPair subject) m indexes pairs at.are;
  }

  pub first_pairs_are_at : (items : List Item) (m : ℕ) → IsLegal subject items
      → ArePairsAt subject (take m (indexes_of items)) (take m (pairs_of items))
  first_pairs_are_at items m legal = first_are_at m (indexes_of items) (pairs_of items) (pairs_are_at items legal)

  -- Indexes have one list of pairs.
  one_list : (indexes : List ℕ) (pairs others : List Pair) → AllZip (IsPair subject) indexes pairs → AllZip (IsPair subject) indexes others
      → pairs ≡ others
  one_list [] [] [] are those = refl
  one_list [] [] (other ∷ others) are those = absurd those
  one_list [] (pair ∷ pairs) others are those = absurd are
  one_list (index ∷ indexes) [] others are those = absurd are
  one_list (index ∷ indexes) (pair ∷ pairs) [] are those = absurd those
  one_list (index ∷ indexes) (pair ∷ pairs) (other ∷ others) are those =
      ap (λ (p : Pair). p ∷ pairs) (one_pair subject index pair other are.0 those.0)
      ∙ ap (λ (ps : List Pair). other ∷ ps) (one_list indexes pairs others are.1 those.1)

  -- The pairs of the first indexes of a legal history are its first pairs.
  pub first_pairs : (items : List Item) (m : ℕ) (pairs : List Pair) → IsLegal subject items
      → ArePairsAt subject (take m (indexes_of items)) pairs → pairs ≡ take m (pairs_of items)
  first_pairs items m pairs legal at =
      one_list (take m (indexes_of items)) pairs (take m (pairs_of items)) at.are (first_pairs_are_at items m legal).are

-- A snapshot that has the pool's first indexes has its first pairs.
pub snapshot_pairs : (state : State) (snapshot : Snapshot) → IsLegal state.subject state.items → snapshot.subject ≡ state.subject
    → IsSnapshot snapshot → HasFirstPairs state snapshot → snapshot.pairs ≡ take (length snapshot.pairs) (pairs_of state.items)
snapshot_pairs state snapshot legal own is first =
    let at = subst (λ (s : Comparison). ArePairsAt s snapshot.indexes snapshot.pairs) own is in
    let here = subst (λ (indexes : List ℕ). ArePairsAt state.subject indexes snapshot.pairs) first at in
    let long : length snapshot.indexes ≡ length snapshot.pairs = sym (AllZip-long (IsPair state.subject) snapshot.indexes snapshot.pairs at.are) in
    first_pairs state.subject state.items (length snapshot.indexes) snapshot.pairs legal here ∙ ap (λ (m : ℕ). take m (pairs_of state.items)) long
