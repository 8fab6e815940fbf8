-- One worker alone tries the alignments in order, each on all pairs.
use Rattle.std.proofs.Math.Nat.{eq-or-lt_of_le}
use Rattle.c_ast.specs.Comparison.{Comparison}
use Rattle.c_ast.specs.declared.trace.Pair.{Pair}
use Rattle.horn_clauses.specs.declared.family.Family.{Family}
use Rattle.pool_core.proofs.Laws.{fronts_are_legal}
use Rattle.pool_core.specs.History.{IsLegal, has_index, has_mined, has_tried, pairs_of}
use Rattle.pool_core.specs.Plays.{AreAllTried}
use Rattle.pool_core.specs.declared.item.Item.{Item}
use Rattle.pool_core.specs.declared.verdict.Why.{Why}
use Rattle.std.proofs.Common.{Bool, List, [], append-nil, arith, false, inl, inr, length, refl, subst, suc, sym, true, ℕ, ◌&&◌, ◌++◌, ◌<◌, ◌∙◌, ◌∷◌, ◌≡◌, ◌≤◌, ◌⊎◌}
use Rattle.std.proofs.lemmas.Bool.Decides.{nat_tests}
use Rattle.std.specs.List.{list_any}
use Rattle.std.specs.Prelude.{◌==◌}
use Rattle.workers.proofs.Growing.{now_one, pairs_added, still_none, still_one}
use Rattle.workers.proofs.Sampling.{still_undecided}
use Rattle.workers.specs.Alone.{IsTriedTo, IsUndecided}
use Rattle.pool_core.specs.declared.item.Item.TheVariants as item

pub equal_numbers : (m k : ℕ) → ((m == m) && (k == k)) ≡ true
equal_numbers m k = grind (arith, nat_tests)

other_number : (m n k l : ℕ) → suc k ≤ l → ((m == n) && (k == l)) ≡ false
other_number m n k l above = grind (arith, nat_tests)

module _ (subject : Comparison) where
  -- What is mined and tried of the next alignment, on all pairs.
  abbrev pub after_one : List Item → ℕ → Family → Why → List Item
  after_one items k candidates why =
      (items ++ item.Mined 0 (length (pairs_of items)) k candidates ∷ []) ++ item.Tried 0 (length (pairs_of items)) k why ∷ []

  -- A test that passes on none before them passes on none with them, where it passes on neither.
  neither_passes : (test : Item → Bool) (items : List Item) (first second : Item) → list_any test items ≡ false → test first ≡ false
      → test second ≡ false → list_any test ((items ++ first ∷ []) ++ second ∷ []) ≡ false
  neither_passes test items first second none at_first at_second =
      still_none test (items ++ first ∷ []) second (still_none test items first none at_first) at_second

  pub both_pass : (test : Item → Bool) (items : List Item) (first second : Item) → list_any test items ≡ true
      → list_any test ((items ++ first ∷ []) ++ second ∷ []) ≡ true
  both_pass test items first second one = still_one test (items ++ first ∷ []) second (still_one test items first one)

  pub undecided_mined : (items : List Item) (prefix k : ℕ) (candidates : Family) → IsUndecided subject items
      → IsLegal subject (items ++ item.Mined 0 prefix k candidates ∷ []) → IsUndecided subject (items ++ item.Mined 0 prefix k candidates ∷ [])
  undecided_mined items prefix k candidates is legal =
      still_undecided subject items (item.Mined 0 prefix k candidates) is legal refl refl refl refl

  -- The pairs stay as they are.
  same_pairs : (items : List Item) (prefix k : ℕ) (candidates : Family) (why : Why)
      → pairs_of ((items ++ item.Mined 0 prefix k candidates ∷ []) ++ item.Tried 0 prefix k why ∷ []) ≡ pairs_of items
  same_pairs items prefix k candidates why =
      pairs_added (items ++ item.Mined 0 prefix k candidates ∷ []) (item.Tried 0 prefix k why ∷ [])
      ∙ append-nil (pairs_of (items ++ item.Mined 0 prefix k candidates ∷ []))
      ∙ pairs_added items (item.Mined 0 prefix k candidates ∷ []) ∙ append-nil (pairs_of items)

  -- The alignments below the next one are tried, and so is that one now.
  one_more_tried : (items : List Item) (k : ℕ) (candidates : Family) (why : Why) → AreAllTried items k
      → AreAllTried (after_one items k candidates why) (suc k)
  one_more_tried items k candidates why tried alignment named below =
      subst (λ (some : List Pair). list_any (has_tried (length some) alignment) (after_one items k candidates why) ≡ true)
      (sym (same_pairs items (length (pairs_of items)) k candidates why))
      (by (eq-or-lt_of_le (omega (arith, below))))
    where
      by : (alignment ≡ k) ⊎ (alignment < k) → list_any (has_tried (length (pairs_of items)) alignment) (after_one items k candidates why) ≡ true
      by (inl same) =
          subst (λ (number : ℕ). list_any (has_tried (length (pairs_of items)) number) (after_one items k candidates why) ≡ true) (sym same)
          (now_one (has_tried (length (pairs_of items)) k) (items ++ item.Mined 0 (length (pairs_of items)) k candidates ∷ [])
          (item.Tried 0 (length (pairs_of items)) k why) (equal_numbers (length (pairs_of items)) k))
      by (inr before) =
          both_pass (has_tried (length (pairs_of items)) alignment) items (item.Mined 0 (length (pairs_of items)) k candidates)
          (item.Tried 0 (length (pairs_of items)) k why) (tried alignment named before)

  -- The next alignment is mined and tried.
  pub next_tried : (items : List Item) (k : ℕ) (candidates : Family) (why : Why) → IsTriedTo subject items k
      → IsLegal subject (after_one items k candidates why) → IsTriedTo subject (after_one items k candidates why) (suc k)
  next_tried items k candidates why so_far legal = record {
    is = still_undecided subject (items ++ item.Mined 0 (length (pairs_of items)) k candidates ∷ []) (item.Tried 0 (length (pairs_of items)) k why)
        (undecided_mined items (length (pairs_of items)) k candidates so_far.is
        (fronts_are_legal subject (items ++ item.Mined 0 (length (pairs_of items)) k candidates ∷ []) (item.Tried 0 (length (pairs_of items)) k why ∷ []) legal))
        legal refl refl refl refl;
    samples = λ index below. both_pass (has_index index) items (item.Mined 0 (length (pairs_of items)) k candidates)
        (item.Tried 0 (length (pairs_of items)) k why) (so_far.samples index below);
    tried = one_more_tried items k candidates why so_far.tried;
    unmined = λ prefix alignment from. neither_passes (has_mined prefix alignment) items (item.Mined 0 (length (pairs_of items)) k candidates)
        (item.Tried 0 (length (pairs_of items)) k why) (so_far.unmined prefix alignment (omega (arith, from)))
        (other_number (length (pairs_of items)) prefix k alignment from) refl;
    untried = λ prefix alignment from. neither_passes (has_tried prefix alignment) items (item.Mined 0 (length (pairs_of items)) k candidates)
        (item.Tried 0 (length (pairs_of items)) k why) (so_far.untried prefix alignment (omega (arith, from))) refl
        (other_number (length (pairs_of items)) prefix k alignment from);
  }
