-- One worker alone takes the samples in order.
use Rattle.std.proofs.Math.Nat.{eq-or-lt_of_le}
use Rattle.c_ast.specs.Comparison.{Comparison}
use Rattle.c_ast.specs.declared.trace.Pair.{Pair}
use Rattle.pool_core.specs.History.{IsLegal, has_index, has_mined, has_tried, indexes_of, pairs_of, verdict_of}
use Rattle.pool_core.specs.Plays.{HaveSamples}
use Rattle.pool_core.specs.declared.item.Item.{Item}
use Rattle.std.proofs.Common.{List, None, [], ap, append-nil, arith, inl, inr, refl, subst, suc, sym, true, ℕ, ◌++◌, ◌<◌, ◌∙◌, ◌∷◌, ◌≡◌, ◌⊎◌}
use Rattle.std.proofs.lemmas.Bool.Decides.{nat_tests}
use Rattle.std.proofs.lemmas.List.Elements.{All-nil, All-weaker}
use Rattle.std.specs.List.{list_any}
use Rattle.std.specs.Prelude.{All}
use Rattle.trace_pair.specs.declared.skipped.Skipped.{Skipped}
use Rattle.workers.proofs.Growing.{all_added, indexes_added, now_one, pairs_added, rises, still_none, still_one, verdict_added}
use Rattle.workers.specs.Alone.{IsSampledTo, IsTriedTo, IsUndecided}
use Rattle.workers.specs.Solved.{AreRising, worker_of}
use Rattle.pool_core.specs.declared.item.Item.TheVariants as item

module _ (subject : Comparison) where
  -- ---- one item more

  -- An item that is neither a pair nor a verdict leaves it undecided.
  pub still_undecided : (items : List Item) (next : Item) → IsUndecided subject items → IsLegal subject (items ++ next ∷ [])
      → worker_of next ≡ 0 → verdict_of (next ∷ []) ≡ None → pairs_of (next ∷ []) ≡ [] → indexes_of (next ∷ []) ≡ []
      → IsUndecided subject (items ++ next ∷ [])
  still_undecided items next is legal own undecided no_pair no_index =
      let pairs = pairs_added items (next ∷ []) ∙ ap (λ (more : List Pair). pairs_of items ++ more) no_pair ∙ append-nil (pairs_of items) in
      let indexes = indexes_added items (next ∷ []) ∙ ap (λ (more : List ℕ). indexes_of items ++ more) no_index ∙ append-nil (indexes_of items) in
      record {
        legal = legal;
        undecided = verdict_added items (next ∷ []) is.undecided ∙ undecided;
        own = all_added (λ (added : Item). worker_of added ≡ 0) items next is.own own;
        equal = subst (λ (some : List Pair). All (λ pair. pair.first.result ≡ pair.second.result) some) (sym pairs) is.equal;
        rising = subst AreRising (sym indexes) is.rising;
      }

  -- So does a pair with equal results, whose index is above all others.
  pair_undecided : (items : List Item) (index : ℕ) (pair : Pair) → IsUndecided subject items → All (λ other. other < index) (indexes_of items)
      → pair.first.result ≡ pair.second.result → IsLegal subject (items ++ item.Pair 0 index pair ∷ [])
      → IsUndecided subject (items ++ item.Pair 0 index pair ∷ [])
  pair_undecided items index pair is below equal legal = record {
    legal = legal;
    undecided = verdict_added items (item.Pair 0 index pair ∷ []) is.undecided;
    own = all_added (λ (added : Item). worker_of added ≡ 0) items (item.Pair 0 index pair) is.own refl;
    equal = subst (λ (some : List Pair). All (λ pair. pair.first.result ≡ pair.second.result) some) (sym (pairs_added items (item.Pair 0 index pair ∷ [])))
        (all_added (λ (pair : Pair). pair.first.result ≡ pair.second.result) (pairs_of items) pair is.equal equal);
    rising = subst AreRising (sym (indexes_added items (item.Pair 0 index pair ∷ []))) (rises (indexes_of items) index is.rising below);
  }

  -- ---- the samples

  pub nothing_sampled : IsSampledTo subject [] 0
  nothing_sampled = record {
    is = record {
      legal = tt;
      undecided = refl;
      own = All-nil (λ (added : Item). worker_of added ≡ 0);
      equal = All-nil (λ (pair : Pair). pair.first.result ≡ pair.second.result);
      rising = tt;
    };
    below = All-nil (λ (index : ℕ). index < 0);
    samples = λ index below. absurd (omega (arith, below));
    later = λ index from. refl;
    unmined = λ prefix alignment. refl;
    untried = λ prefix alignment. refl;
  }

  -- One sample more has an item.
  one_more : (items : List Item) (count : ℕ) (next : Item) → HaveSamples items count → has_index count next ≡ true
      → HaveSamples (items ++ next ∷ []) (suc count)
  one_more items count next samples here index below = by (eq-or-lt_of_le (omega (arith, below)))
    where
      by : (index ≡ count) ⊎ (index < count) → list_any (has_index index) (items ++ next ∷ []) ≡ true
      by (inl same) = now_one (has_index index) items next (subst (λ (i : ℕ). has_index i next ≡ true) (sym same) here)
      by (inr before) = still_one (has_index index) items next (samples index before)

  -- The next sample is a pair with equal results.
  pub pair_sampled : (items : List Item) (count : ℕ) (pair : Pair) → IsSampledTo subject items count
      → pair.first.result ≡ pair.second.result → IsLegal subject (items ++ item.Pair 0 count pair ∷ [])
      → IsSampledTo subject (items ++ item.Pair 0 count pair ∷ []) (suc count)
  pair_sampled items count pair sampled equal legal = record {
    is = pair_undecided items count pair sampled.is sampled.below equal legal;
    below = subst (λ (some : List ℕ). All (λ index. index < suc count) some) (sym (indexes_added items (item.Pair 0 count pair ∷ [])))
        (all_added (λ (index : ℕ). index < suc count) (indexes_of items) count
        (All-weaker (λ index. index < count) (λ index. index < suc count) (λ index less. omega (arith, less)) (indexes_of items) sampled.below)
        (omega arith));
    samples = one_more items count (item.Pair 0 count pair) sampled.samples (grind (arith, nat_tests));
    later = λ index from. still_none (has_index index) items (item.Pair 0 count pair) (sampled.later index (omega (arith, from))) (grind (arith, nat_tests));
    unmined = λ prefix alignment. still_none (has_mined prefix alignment) items (item.Pair 0 count pair) (sampled.unmined prefix alignment) refl;
    untried = λ prefix alignment. still_none (has_tried prefix alignment) items (item.Pair 0 count pair) (sampled.untried prefix alignment) refl;
  }

  -- The next sample is skipped.
  pub skip_sampled : (items : List Item) (count : ℕ) (skipped : Skipped) → IsSampledTo subject items count
      → IsLegal subject (items ++ item.Skipped 0 count skipped ∷ []) → IsSampledTo subject (items ++ item.Skipped 0 count skipped ∷ []) (suc count)
  skip_sampled items count skipped sampled legal = record {
    is = still_undecided items (item.Skipped 0 count skipped) sampled.is legal refl refl refl refl;
    below = subst (λ (some : List ℕ). All (λ index. index < suc count) some)
        (sym (indexes_added items (item.Skipped 0 count skipped ∷ []) ∙ append-nil (indexes_of items)))
        (All-weaker (λ index. index < count) (λ index. index < suc count) (λ index less. omega (arith, less)) (indexes_of items) sampled.below);
    samples = one_more items count (item.Skipped 0 count skipped) sampled.samples (grind (arith, nat_tests));
    later = λ index from. still_none (has_index index) items (item.Skipped 0 count skipped) (sampled.later index (omega (arith, from)))
        (grind (arith, nat_tests));
    unmined = λ prefix alignment. still_none (has_mined prefix alignment) items (item.Skipped 0 count skipped) (sampled.unmined prefix alignment) refl;
    untried = λ prefix alignment. still_none (has_tried prefix alignment) items (item.Skipped 0 count skipped) (sampled.untried prefix alignment) refl;
  }

  -- All samples are taken, and no alignment is tried.
  pub all_sampled : (items : List Item) → IsSampledTo subject items subject.settings.samples → IsTriedTo subject items 1
  all_sampled items sampled = record {
    is = sampled.is;
    samples = sampled.samples;
    tried = λ alignment named below. absurd (omega (arith, named.least, below));
    unmined = λ prefix alignment from. sampled.unmined prefix alignment;
    untried = λ prefix alignment from. sampled.untried prefix alignment;
  }
