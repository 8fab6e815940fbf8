-- Each call of one worker alone is refused for want of memory at most.
-- ---- any call
use Rattle.std.proofs.lemmas.List.Elements.{Contains-append_right}
use Rattle.c_ast.specs.declared.trace.Pair.{Pair}
use Rattle.horn_clauses.specs.Family.{atoms_at}
use Rattle.horn_clauses.specs.declared.atom.Atom.{Atom}
use Rattle.horn_clauses.specs.declared.family.Family.{Family}
use Rattle.houdini.specs.Within.{IsSublist, candidates_or_false}
use Rattle.miners.specs.Candidates.{AreMinedFrom}
use Rattle.pool_core.specs.Candidates.{IsDrawnFrom, IsOfCandidates, candidates_of}
use Rattle.pool_core.specs.History.{IsOpen, has_index, has_later_pair, has_mined, has_tried, indexes_of, pairs_of, workers_of}
use Rattle.pool_core.specs.Plays.{Answers, Append, Call, IsGrounded, Mine, Post, Skip, State, Try, double_of, snapshot_of, with_item}
use Rattle.pool_core.specs.declared.item.Item.{Item}
use Rattle.pool_core.specs.declared.refused.PoolRefused.{PoolRefused}
use Rattle.pool_core.specs.declared.verdict.Verdict.TheVariants.{Different, Equivalent}
use Rattle.pool_core.specs.declared.verdict.Why.{Why}
use Rattle.relation.specs.Coupled.{Coupling}
use Rattle.std.proofs.Common.{Err, List, None, Option, Some, [], ap, append-nil, arith, drop, false, length, refl, subst, sym, take, ℕ, ◌++◌, ◌∙◌, ◌∷◌, ◌≡◌, ◌≢◌}
use Rattle.std.proofs.lemmas.List.{drop_all, take_all}
use Rattle.std.proofs.lemmas.List.Elements.{All-weaker}
use Rattle.std.specs.List.{list_any}
use Rattle.std.specs.Prelude.{◌==◌}
use Rattle.trace_pair.specs.declared.skipped.Skipped.{Skipped}
use Rattle.workers.proofs.Growing.{indexes_added, indexes_are_many, no_position, now_one, still_none, verdict_added, workers_are_many}
use Rattle.workers.proofs.Trying.{equal_numbers}
use Rattle.workers.specs.Alone.{IsSampledTo, IsTriedTo}
use Rattle.workers.specs.Found.{IsGreatestCoupling}
use Rattle.pool_core.specs.declared.item.Item.TheVariants as item
use Rattle.pool_core.specs.declared.refused.PoolRefused.TheVariants as refused

-- What is grounded, and not there yet, is refused for want of memory at most.
grounded_is_answered : (state : State) (call : Call) (why : PoolRefused) → IsGrounded state call → double_of state call ≡ None
    → Answers state call (Err why) → why ≡ refused.Memory
grounded_is_answered state call refused.Closed grounded new answers = absurd (answers grounded.0.0)
grounded_is_answered state call refused.Stranger grounded new answers = absurd (answers.1 grounded.0.1)
grounded_is_answered state call (refused.Stale count) grounded new answers = absurd (answers.1 grounded.1)
grounded_is_answered state call (refused.NoPair index) grounded new answers = absurd (answers.2 grounded.2)
grounded_is_answered state call (refused.Unmined alignment) grounded new answers = absurd (answers.3 grounded.3)
grounded_is_answered state call (refused.Double place) grounded new answers = absurd (clash (sym new ∙ answers.1))
  where
    clash : ◌≡◌ {A = Option ℕ} None (Some place) → ⊥
    clash same = cc
grounded_is_answered state call refused.Memory grounded new answers = refl

module _ (state : State) where
  -- ---- samples

  pub pair_is_answered : (index : ℕ) (pair : Pair) (why : PoolRefused) → IsSampledTo state.subject state.items index
      → Answers state (Append 0 state.subject index pair) (Err why) → why ≡ refused.Memory
  pair_is_answered index pair why sampled answers =
      grounded_is_answered state (Append 0 state.subject index pair) why ((sampled.is.undecided, refl), tt, tt, tt)
      (no_position (has_index index) state.items (sampled.later index (omega arith))) answers

  pub skip_is_answered : (index : ℕ) (skipped : Skipped) (why : PoolRefused) → IsSampledTo state.subject state.items index
      → Answers state (Skip 0 state.subject index skipped) (Err why) → why ≡ refused.Memory
  skip_is_answered index skipped why sampled answers =
      grounded_is_answered state (Skip 0 state.subject index skipped) why ((sampled.is.undecided, refl), tt, tt, tt)
      (no_position (has_index index) state.items (sampled.later index (omega arith))) answers

  -- A pair was added last, and its results differ: so it is seen.
  pub difference_is_answered : (index : ℕ) (pair : Pair) (why : PoolRefused) → IsOpen state.items
      → pair.first.result ≢ pair.second.result
      → Answers (with_item state (item.Pair 0 index pair)) (Post 0 (Different index pair.input pair.first.result pair.second.result)) (Err why)
      → why ≡ refused.Memory
  difference_is_answered index pair why undecided differ answers =
      let added = item.Pair 0 index pair in
      grounded_is_answered (with_item state added) (Post 0 (Different index pair.input pair.first.result pair.second.result)) why (
        (verdict_added state.items (added ∷ []) undecided, tt),
        tt,
        (
          record {
            worker = 0;
            pair = pair;
            stands = Contains-append_right state.items (added ∷ []) added (0, omega arith, refl);
            input_is = refl;
            first_is = refl;
            second_is = refl;
          },
          differ,
        ),
        tt,
      )
      refl answers

  -- ---- alignments

  -- All that the worker added is among all pairs.
  no_later_pair : (items : List Item) (worker : ℕ) → has_later_pair worker (length (pairs_of items)) items ≡ false
  no_later_pair items worker =
      let none : drop (length (pairs_of items)) (workers_of items) ≡ [] =
      subst (λ (n : ℕ). drop n (workers_of items) ≡ []) (workers_are_many items) (drop_all (length (workers_of items)) (workers_of items) (omega arith)) in
      ap (list_any (λ other. other == worker)) none

  all_indexes : (items : List Item) → indexes_of items ≡ take (length (indexes_of items)) (indexes_of items)
  all_indexes items = sym (take_all (length (indexes_of items)) (indexes_of items) (omega arith))

  pub mined_is_answered : (k : ℕ) (candidates : Family) (why : PoolRefused) → IsTriedTo state.subject state.items k
      → Answers state (Mine 0 (snapshot_of state) k candidates) (Err why) → why ≡ refused.Memory
  mined_is_answered k candidates why so_far answers =
      grounded_is_answered state (Mine 0 (snapshot_of state) k candidates) why
      ((so_far.is.undecided, refl), (all_indexes state.items, no_later_pair state.items 0), tt, tt)
      (no_position (has_mined (length (pairs_of state.items)) k) state.items (so_far.unmined (length (pairs_of state.items)) k (omega arith))) answers

  same_indexes : (items : List Item) (prefix k : ℕ) (candidates : Family)
      → indexes_of (items ++ item.Mined 0 prefix k candidates ∷ []) ≡ indexes_of items
  same_indexes items prefix k candidates =
      indexes_added items (item.Mined 0 prefix k candidates ∷ []) ∙ append-nil (indexes_of items)

  -- The candidates of all pairs were added last.
  pub tried_is_answered : (k : ℕ) (candidates : Family) (reason : Why) (why : PoolRefused) → IsTriedTo state.subject state.items k
      → Answers (with_item state (item.Mined 0 (length (pairs_of state.items)) k candidates)) (Try 0 (snapshot_of state) k reason) (Err why)
      → why ≡ refused.Memory
  tried_is_answered k candidates reason why so_far answers =
      let added = item.Mined 0 (length (pairs_of state.items)) k candidates in
      grounded_is_answered (with_item state added) (Try 0 (snapshot_of state) k reason) why (
        (verdict_added state.items (added ∷ []) so_far.is.undecided, refl),
        subst (λ (some : List ℕ). indexes_of state.items ≡ take (length (indexes_of state.items)) some)
            (sym (same_indexes state.items (length (pairs_of state.items)) k candidates)) (all_indexes state.items),
        tt,
        now_one (has_mined (length (pairs_of state.items)) k) state.items added (equal_numbers (length (pairs_of state.items)) k),
      )
      (no_position (has_tried (length (pairs_of state.items)) k) (state.items ++ added ∷ [])
      (still_none (has_tried (length (pairs_of state.items)) k) state.items added (so_far.untried (length (pairs_of state.items)) k (omega arith)) refl))
      answers

  -- A family of these candidates is drawn from what was mined of them.
  drawn_from_mined : (alignment : ℕ) (pairs : List Pair) (candidates family : Family) → AreMinedFrom state.subject alignment pairs candidates
      → IsOfCandidates state.subject alignment pairs family → IsDrawnFrom (atoms_at candidates) family
  drawn_from_mined alignment pairs candidates family mined of_candidates =
      All-weaker (λ entry. IsSublist entry.1 (candidates_or_false (candidates_of state.subject alignment pairs entry.0)))
      (λ entry. IsSublist entry.1 (candidates_or_false (atoms_at candidates entry.0)))
      (λ entry some. subst (λ (found : Option (List Atom)). IsSublist entry.1 (candidates_or_false found)) (sym (mined entry.0)) some)
      family.nodes of_candidates.drawn

  pub coupling_is_answered : (k : ℕ) (candidates : Family) (coupled : Coupling) (why : PoolRefused) → IsTriedTo state.subject state.items k
      → AreMinedFrom state.subject k (pairs_of state.items) candidates → IsGreatestCoupling state.subject k (pairs_of state.items) coupled
      → Answers (with_item state (item.Mined 0 (length (pairs_of state.items)) k candidates)) (Post 0 (Equivalent coupled (indexes_of state.items))) (Err why)
      → why ≡ refused.Memory
  coupling_is_answered k candidates coupled why so_far mined greatest answers =
      let added = item.Mined 0 (length (pairs_of state.items)) k candidates in
      let numbered : item.Mined 0 (length (indexes_of state.items)) coupled.alignment candidates ≡ added =
      ap (λ (n : ℕ). item.Mined 0 n coupled.alignment candidates) (indexes_are_many state.items)
      ∙ ap (λ (n : ℕ). item.Mined 0 (length (pairs_of state.items)) n candidates) greatest.under in
      grounded_is_answered (with_item state added) (Post 0 (Equivalent coupled (indexes_of state.items))) why (
        (verdict_added state.items (added ∷ []) so_far.is.undecided, greatest.own),
        subst (λ (some : List ℕ). indexes_of state.items ≡ take (length (indexes_of state.items)) some)
            (sym (same_indexes state.items (length (pairs_of state.items)) k candidates)) (all_indexes state.items),
        tt,
        record {
          worker = 0;
          candidates = candidates;
          stands = Contains-append_right state.items (added ∷ []) (item.Mined 0 (length (indexes_of state.items)) coupled.alignment candidates)
              (0, omega arith, sym numbered);
          drawn = drawn_from_mined k (pairs_of state.items) candidates coupled.family mined greatest.candidates;
        },
      )
      refl answers
