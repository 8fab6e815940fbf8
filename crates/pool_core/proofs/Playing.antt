-- What an answered call adds may follow, so that a legal history stays legal.
use Rattle.std.proofs.Common.{◌≡◌, ℕ, zero, suc, ◌<◌, ◌≤◌, List, [], ◌∷◌, length, take, None, Ok, sym, ap, subst, arith}
use Rattle.c_ast.specs.declared.trace.Pair.{Pair}
use Rattle.c_ast.specs.Comparison.{Comparison}
use Rattle.horn_clauses.specs.declared.family.Family.{Family}
use Rattle.relation.specs.Coupled.{IsCoupled}
use Rattle.trace_pair.specs.declared.skipped.Skipped.{Skipped}
use Rattle.trace_pair.specs.Pairs.{IsPair, IsSkip}
use Rattle.miners.specs.Candidates.{AreMinedFrom}
use Rattle.pool_core.specs.declared.item.Item.TheVariants as item
use Rattle.pool_core.specs.declared.verdict.Why.{Why}
use Rattle.pool_core.specs.declared.verdict.Verdict.TheVariants.{Equivalent, Different, Unknown}
use Rattle.pool_core.specs.Tried.{IsTried}
use Rattle.pool_core.specs.History.{pairs_of, has_index, has_mined, has_tried, MayFollow, IsLegal}
use Rattle.pool_core.specs.Plays.{State, Snapshot, IsSnapshot, Call, Append, Skip, Mine, Try, Post, item_of, MayCall, IsGrounded, double_of, Answers}
use Rattle.pool_core.proofs.Sampled.{snapshot_pairs}
use Rattle.pool_core.proofs.Finding.{none_passes}
use Rattle.pool_core.proofs.Posting.{difference_may_follow, equivalence_may_follow}

front_shorter : {X : Type 0} (n : ℕ) (xs : List X) → length (take n xs) ≤ length xs
front_shorter zero xs = omega arith
front_shorter (suc n) [] = omega arith
front_shorter (suc n) (x ∷ xs) = omega (arith, front_shorter n xs)

-- ---- each call

-- What the types of what is given say: a snapshot is one, and a coupling couples.
abbrev pub IsGiven : Call → Type 0
IsGiven (Append worker subject index pair) = Unit {0}
IsGiven (Skip worker subject index skipped) = Unit {0}
IsGiven (Mine worker snapshot alignment candidates) = IsSnapshot snapshot
IsGiven (Try worker snapshot alignment why) = IsSnapshot snapshot
IsGiven (Post worker (Equivalent coupled indexes)) = IsCoupled coupled
IsGiven (Post worker (Different index input first second)) = Unit {0}
IsGiven (Post worker (Unknown samples alignments)) = Unit {0}

module _ (state : State) (legal : IsLegal state.subject state.items) where
  pub pair_may_follow : (worker : ℕ) (subject : Comparison) (index : ℕ) (pair : Pair) → MayCall (Append worker subject index pair)
      → IsGrounded state (Append worker subject index pair) → double_of state (Append worker subject index pair) ≡ None
      → MayFollow state.subject state.items (item.Pair worker index pair)
  pair_may_follow worker subject index pair may grounded new = (
    grounded.0.0,
    (
      record {
        below = subst (λ (s : Comparison). index < s.settings.samples) grounded.0.1 may.0;
        new = none_passes (has_index index) state.items new;
      },
      subst (λ (s : Comparison). IsPair s index pair) grounded.0.1 may.1,
    ),
  )

  pub skip_may_follow : (worker : ℕ) (subject : Comparison) (index : ℕ) (skipped : Skipped) → MayCall (Skip worker subject index skipped)
      → IsGrounded state (Skip worker subject index skipped) → double_of state (Skip worker subject index skipped) ≡ None
      → MayFollow state.subject state.items (item.Skipped worker index skipped)
  skip_may_follow worker subject index skipped may grounded new = (
    grounded.0.0,
    (
      record {
        below = subst (λ (s : Comparison). index < s.settings.samples) grounded.0.1 may.0;
        new = none_passes (has_index index) state.items new;
      },
      subst (λ (s : Comparison). IsSkip s index skipped) grounded.0.1 may.1,
    ),
  )

  pub mined_may_follow : (worker : ℕ) (snapshot : Snapshot) (alignment : ℕ) (candidates : Family) → IsSnapshot snapshot
      → MayCall (Mine worker snapshot alignment candidates) → IsGrounded state (Mine worker snapshot alignment candidates)
      → double_of state (Mine worker snapshot alignment candidates) ≡ None
      → MayFollow state.subject state.items (item.Mined worker (length snapshot.pairs) alignment candidates)
  mined_may_follow worker snapshot alignment candidates is may grounded new =
      let first = snapshot_pairs state snapshot legal grounded.0.1 is grounded.1.0 in (
        grounded.0.0,
        record {
          named = may.0;
          there = subst (λ (n : ℕ). n ≤ length (pairs_of state.items)) (sym (ap length first))
              (front_shorter (length snapshot.pairs) (pairs_of state.items));
          own = grounded.1.1;
          new = none_passes (has_mined (length snapshot.pairs) alignment) state.items new;
          mined = subst (λ (pairs : List Pair). AreMinedFrom state.subject alignment pairs candidates) first
              (subst (λ (s : Comparison). AreMinedFrom s alignment snapshot.pairs candidates) grounded.0.1 may.1);
        },
      )

  pub tried_may_follow : (worker : ℕ) (snapshot : Snapshot) (alignment : ℕ) (why : Why) → IsSnapshot snapshot
      → MayCall (Try worker snapshot alignment why) → IsGrounded state (Try worker snapshot alignment why)
      → double_of state (Try worker snapshot alignment why) ≡ None
      → MayFollow state.subject state.items (item.Tried worker (length snapshot.pairs) alignment why)
  tried_may_follow worker snapshot alignment why is may grounded new =
      let first = snapshot_pairs state snapshot legal grounded.0.1 is grounded.1 in (
        grounded.0.0,
        record {
          mined = grounded.3;
          new = none_passes (has_tried (length snapshot.pairs) alignment) state.items new;
          tried = subst (λ (pairs : List Pair). IsTried state.subject alignment pairs why) first
              (subst (λ (s : Comparison). IsTried s alignment snapshot.pairs why) grounded.0.1 may);
        },
      )

  -- The item of an answered call may follow.
  pub may_follow : (call : Call) (place : ℕ) → IsGiven call → MayCall call → Answers state call (Ok place)
      → MayFollow state.subject state.items (item_of call)
  may_follow (Append worker subject index pair) place is may answers = pair_may_follow worker subject index pair may answers.0 answers.1
  may_follow (Skip worker subject index skipped) place is may answers = skip_may_follow worker subject index skipped may answers.0 answers.1
  may_follow (Mine worker snapshot alignment candidates) place is may answers =
      mined_may_follow worker snapshot alignment candidates is may answers.0 answers.1
  may_follow (Try worker snapshot alignment why) place is may answers = tried_may_follow worker snapshot alignment why is may answers.0 answers.1
  may_follow (Post worker (Equivalent coupled indexes)) place is may answers = equivalence_may_follow state legal worker coupled indexes is answers.0
  may_follow (Post worker (Different index input first second)) place is may answers =
      difference_may_follow state legal worker index input first second answers.0
  may_follow (Post worker (Unknown samples alignments)) place is may answers = absurd may
