-- What a pool with a legal history concludes is justified.
use Rattle.std.proofs.Common.{◌≡◌, ℕ, ◌-◌, inl, inr, List, [], ◌∷◌, length, Option, Some, None, subst, arith}
use Rattle.std.specs.Prelude.{Contains, IsSomeAnd, slice_get}
use Rattle.std.proofs.lemmas.List.{take_all}
use Rattle.std.proofs.lemmas.List.Elements.{All-contains}
use Rattle.c_ast.specs.declared.trace.Pair.{Pair}
use Rattle.c_ast.specs.Comparison.{Comparison}
use Rattle.trace_pair.specs.Pairs.{IsPair}
use Rattle.trace_pair.proofs.Laws.{one_pair, pair_is_no_skip}
use Rattle.pool_core.specs.declared.item.Item.{Item}
use Rattle.pool_core.specs.declared.item.Item.TheVariants as item
use Rattle.pool_core.specs.declared.verdict.Why.{Why}
use Rattle.pool_core.specs.declared.verdict.SampleWhy.{SampleWhy}
use Rattle.pool_core.specs.declared.verdict.SampleWhy.TheVariants as sample
use Rattle.pool_core.specs.declared.verdict.Verdict.{Verdict}
use Rattle.pool_core.specs.declared.verdict.Verdict.TheVariants as verdict
use Rattle.pool_core.specs.Tried.{IsTried}
use Rattle.pool_core.specs.Justified.{IsSaid, IsJustified, DecidesNothing}
use Rattle.pool_core.specs.History.{pairs_of, indexes_of, verdict_of, HasSample, HasReason, HaveEqualResults, Concludes, IsLegal}
use Rattle.pool_core.specs.Plays.{ConclusionsAreJustified}
use Rattle.pool_core.proofs.Listings.{IsOneOf, one_of, contains}
use Rattle.pool_core.proofs.Excluding.{some_weaker}
use Rattle.pool_core.proofs.Standing.{pair_there, skip_there, tried_there, posted_there}
use Rattle.pool_core.proofs.Sampled.{pairs_are_at}

-- The pair of an item is one of the pairs.
pair_among : (items : List Item) (worker index : ℕ) (pair : Pair) → IsOneOf (item.Pair worker index pair) items → IsOneOf pair (pairs_of items)
pair_among [] worker index pair one = absurd one
pair_among (item.Pair v i p ∷ items) worker index pair (inl same) = inl cc
pair_among (item.Pair v i p ∷ items) worker index pair (inr one) = inr (pair_among items worker index pair one)
pair_among (item.Skipped v i skipped ∷ items) worker index pair (inl same) = cc
pair_among (item.Skipped v i skipped ∷ items) worker index pair (inr one) = pair_among items worker index pair one
pair_among (item.Mined v prefix alignment candidates ∷ items) worker index pair (inl same) = cc
pair_among (item.Mined v prefix alignment candidates ∷ items) worker index pair (inr one) = pair_among items worker index pair one
pair_among (item.Tried v prefix alignment why ∷ items) worker index pair (inl same) = cc
pair_among (item.Tried v prefix alignment why ∷ items) worker index pair (inr one) = pair_among items worker index pair one
pair_among (item.Posted v verdict ∷ items) worker index pair (inl same) = cc
pair_among (item.Posted v verdict ∷ items) worker index pair (inr one) = pair_among items worker index pair one

pub pair_contained : (items : List Item) (worker index : ℕ) (pair : Pair) → Contains items (item.Pair worker index pair) → Contains (pairs_of items) pair
pair_contained items worker index pair has =
    contains (pairs_of items) pair (pair_among items worker index pair (one_of items (item.Pair worker index pair) has))

-- Where a verdict is found an item has it.
pub posted_stands : (items : List Item) (found : Verdict) → verdict_of items ≡ Some found
    → (worker : ℕ) × IsOneOf (item.Posted worker found) items
posted_stands [] found is = cc
posted_stands (item.Pair worker index pair ∷ items) found is = let r = posted_stands items found is in (r.0, inr r.1)
posted_stands (item.Skipped worker index skipped ∷ items) found is = let r = posted_stands items found is in (r.0, inr r.1)
posted_stands (item.Mined worker prefix alignment candidates ∷ items) found is = let r = posted_stands items found is in (r.0, inr r.1)
posted_stands (item.Tried worker prefix alignment why ∷ items) found is = let r = posted_stands items found is in (r.0, inr r.1)
posted_stands (item.Posted worker verdict ∷ items) found is = (worker, inl cc)

module _ (subject : Comparison) (items : List Item) (legal : IsLegal subject items) where
  -- ---- without a verdict

  has_is_said : HaveEqualResults items → (index : ℕ) (why : SampleWhy) → HasSample items index why → IsSaid subject index why
  has_is_said equal index sample.Equal has = record {
    pair = has.1;
    is = pair_there subject items has.0 index has.1 legal has.2;
    equal = All-contains (λ (pair : Pair). pair.first.result ≡ pair.second.result) (pairs_of items) has.1 equal
        (pair_contained items has.0 index has.1 has.2);
  }
  has_is_said equal index (sample.Skipped skipped) has = skip_there subject items has.0 index skipped legal has.1

  -- A pair of which the history has something is one of its own.
  pair_of_sample : (index : ℕ) (pair : Pair) (why : SampleWhy) → IsPair subject index pair → HasSample items index why
      → Contains (pairs_of items) pair
  pair_of_sample index pair sample.Equal is has =
      let same = one_pair subject index has.1 pair (pair_there subject items has.0 index has.1 legal has.2) is in
      subst (Contains (pairs_of items)) same (pair_contained items has.0 index has.1 has.2)
  pair_of_sample index pair (sample.Skipped skipped) is has =
      absurd (pair_is_no_skip subject index pair skipped is (skip_there subject items has.0 index skipped legal has.1))

  pair_of_some : (index : ℕ) (pair : Pair) (found : Option SampleWhy) → IsPair subject index pair → IsSomeAnd found (HasSample items index)
      → Contains (pairs_of items) pair
  pair_of_some index pair None is some = absurd some
  pair_of_some index pair (Some why) is some = pair_of_sample index pair why is some

  reason_is_true : (alignment : ℕ) (why : Why) → HasReason items (length (pairs_of items)) alignment why
      → IsTried subject alignment (pairs_of items) why
  reason_is_true alignment why has =
      let tried = tried_there subject items has.0 (length (pairs_of items)) alignment why legal has.1 in
      subst (λ (pairs : List Pair). IsTried subject alignment pairs why) (take_all (length (pairs_of items)) (pairs_of items) (omega arith)) tried.tried

  pub nothing_decided : (samples : List SampleWhy) (alignments : List Why) → Concludes subject items samples alignments
      → DecidesNothing subject samples alignments
  nothing_decided samples alignments concludes = record {
    as_many = concludes.as_many;
    said = λ index below. some_weaker (HasSample items index) (IsSaid subject index) (has_is_said concludes.equal index) (slice_get samples index)
        (concludes.said index below);
    twelve = concludes.twelve;
    indexes = indexes_of items;
    pairs = pairs_of items;
    all = record {
      at = pairs_are_at subject items legal;
      all = λ index pair below is. pair_of_some index pair (slice_get samples index) is (concludes.said index below);
    };
    tried = λ alignment named. some_weaker (HasReason items (length (pairs_of items)) alignment) (IsTried subject alignment (pairs_of items))
        (reason_is_true alignment) (slice_get alignments (alignment - 1)) (concludes.tried alignment named);
  }

  -- ---- with one

  pub found_is_justified : (found : Verdict) → verdict_of items ≡ Some found → IsJustified subject found
  found_is_justified found is = let at = posted_stands items found is in posted_there subject items at.0 found legal at.1

pub conclusions_are_justified : ConclusionsAreJustified
conclusions_are_justified state (verdict.Equivalent coupled indexes) legal concluded =
    found_is_justified state.subject state.items legal (verdict.Equivalent coupled indexes) concluded
conclusions_are_justified state (verdict.Different index input first second) legal concluded =
    found_is_justified state.subject state.items legal (verdict.Different index input first second) concluded
conclusions_are_justified state (verdict.Unknown samples alignments) legal concluded =
    nothing_decided state.subject state.items legal samples alignments concluded
