-- What one worker alone posts and concludes.
use Rattle.std.proofs.lemmas.List.Kept.{AllPairs-cons}
use Rattle.pool_core.specs.declared.refused.Missing.TheVariants as missing
use Rattle.c_ast.specs.Comparison.{Comparison}
use Rattle.c_ast.specs.declared.trace.Pair.{Pair}
use Rattle.horn_clauses.specs.declared.family.Family.{Family}
use Rattle.pool_core.proofs.Laws.{conclusions_are_justified}
use Rattle.pool_core.specs.History.{HaveEqualResults, IsLegal, IsLegalBehind, IsOpen, has_index, has_tried, indexes_of, pairs_of, verdict_of}
use Rattle.pool_core.specs.Justified.{AreAllPairs, ArePairsAt}
use Rattle.pool_core.specs.Plays.{AnswersConclusion, IsConcluded, State}
use Rattle.pool_core.specs.declared.item.Item.{Item}
use Rattle.pool_core.specs.declared.refused.Missing.{Missing}
use Rattle.pool_core.specs.declared.verdict.Verdict.{Verdict}
use Rattle.pool_core.specs.declared.verdict.Verdict.TheVariants.{Different, Equivalent, Unknown}
use Rattle.relation.specs.Coupled.{Coupling}
use Rattle.std.proofs.Common.{Bool, Err, List, None, Ok, Some, [], ap, arith, false, inl, inr, length, refl, subst, suc, sym, true, zero, ℕ, ◌++◌, ◌<◌, ◌||◌, ◌∙◌, ◌∷◌, ◌≡◌, ◌≢◌}
use Rattle.std.proofs.lemmas.Bool.Decides.{nat_tests}
use Rattle.std.proofs.lemmas.List.Elements.{All-cons, All-contains, All-head, All-nil, All-tail, All-weaker}
use Rattle.std.specs.List.{AllZip, list_any}
use Rattle.std.specs.Prelude.{All, AllPairs, Contains, if◌then◌else◌, slice_get, ◌==◌}
use Rattle.trace_pair.proofs.Laws.{one_pair, pair_is_no_skip}
use Rattle.trace_pair.specs.Pairs.{IsPair, IsSkip}
use Rattle.workers.proofs.Growing.{all_added, verdict_added}
use Rattle.workers.proofs.Trying.{both_pass}
use Rattle.workers.specs.Alone.{HasFirstVerdict, IsFinished, IsSampledTo, IsTriedTo, IsUndecided}
use Rattle.workers.specs.Found.{ContainsLinear, IsGreatestCoupling}
use Rattle.workers.specs.Solved.{AreRising, IsFirstVerdict, IsSolvedAlone, share_of, worker_of}
use Rattle.pool_core.specs.declared.item.Item.TheVariants as item

above_all : (x : ℕ) (xs : List ℕ) → AreRising (x ∷ xs) → All (λ y. x ≢ y) xs
above_all x xs rising = All-weaker (λ y. x < y) (λ y. x ≢ y) (λ y less same. omega (arith, less, same)) xs (below_all x xs rising)
  where
    below_all : (x : ℕ) (xs : List ℕ) → AreRising (x ∷ xs) → All (λ y. x < y) xs
    below_all x [] rising = All-nil (λ (y : ℕ). x < y)
    below_all x (y ∷ more) rising =
        All-cons (λ (z : ℕ). x < z) y more rising.0
        (All-weaker (λ z. y < z) (λ z. x < z) (λ z less. omega (arith, less, rising.0)) more (below_all y more rising.1))

rising_behind : (x : ℕ) (xs : List ℕ) → AreRising (x ∷ xs) → AreRising xs
rising_behind x [] rising = tt
rising_behind x (y ∷ more) rising = rising.1

-- Of numbers that rise none comes twice.
risen_apart : (xs : List ℕ) → AreRising xs → AllPairs (λ i j. i ≢ j) xs
risen_apart [] rising = λ i j d below inside. absurd (omega (arith, inside))
risen_apart (x ∷ xs) rising = AllPairs-cons (λ i j. i ≢ j) x xs (above_all x xs rising) (risen_apart xs (rising_behind x xs rising))

same_number : (m n : ℕ) → (m == n) ≡ true → m ≡ n
same_number m n same = grind (arith, nat_tests)

contains_first : (pair : Pair) (pairs : List Pair) → Contains (pair ∷ pairs) pair
contains_first pair pairs = (0, omega arith, refl)

contains_later : (first pair : Pair) (pairs : List Pair) → Contains pairs pair → Contains (first ∷ pairs) pair
contains_later first pair pairs there = (suc there.0, omega (arith, there.1), there.2)

module _ (subject : Comparison) where
  -- ---- what was said of a sample

  abbrev IsEqual : Pair → Type 0
  IsEqual pair = pair.first.result ≡ pair.second.result

  -- A pair of which something was said is among the pairs.
  said : (before items : List Item) (i : ℕ) (pair : Pair) → IsLegalBehind subject before items → IsPair subject i pair
      → list_any (has_index i) items ≡ true → Contains (pairs_of items) pair
  said before [] i pair legal is any = cc
  said before (item.Pair worker index found ∷ items) i pair legal is any =
      by (index == i) refl any (said (before ++ item.Pair worker index found ∷ []) items i pair legal.1 is)
    where
      by : (b : Bool) → (index == i) ≡ b → (b || list_any (has_index i) items) ≡ true
          → (list_any (has_index i) items ≡ true → Contains (pairs_of items) pair) → Contains (found ∷ pairs_of items) pair
      by true same any later =
          let here = subst (λ (n : ℕ). IsPair subject n found) (same_number index i same) legal.0.1.1 in
          subst (λ (p : Pair). Contains (found ∷ pairs_of items) p) (one_pair subject i found pair here is) (contains_first found (pairs_of items))
      by false same any later = contains_later found pair (pairs_of items) (later any)
  said before (item.Skipped worker index skipped ∷ items) i pair legal is any =
      by (index == i) refl any (said (before ++ item.Skipped worker index skipped ∷ []) items i pair legal.1 is)
    where
      by : (b : Bool) → (index == i) ≡ b → (b || list_any (has_index i) items) ≡ true
          → (list_any (has_index i) items ≡ true → Contains (pairs_of items) pair) → Contains (pairs_of items) pair
      by true same any later =
          let here = subst (λ (n : ℕ). IsSkip subject n skipped) (same_number index i same) legal.0.1.1 in
          absurd (pair_is_no_skip subject i pair skipped is here)
      by false same any later = later any
  said before (item.Mined worker prefix alignment candidates ∷ items) i pair legal is any =
      said (before ++ item.Mined worker prefix alignment candidates ∷ []) items i pair legal.1 is any
  said before (item.Tried worker prefix alignment why ∷ items) i pair legal is any =
      said (before ++ item.Tried worker prefix alignment why ∷ []) items i pair legal.1 is any
  said before (item.Posted worker found ∷ items) i pair legal is any =
      said (before ++ item.Posted worker found ∷ []) items i pair legal.1 is any

  -- ---- all pairs

  abbrev IsBelow : ℕ → Type 0
  IsBelow index = index < subject.settings.samples

  all_below : (before items : List Item) → IsLegalBehind subject before items → All IsBelow (indexes_of items)
  all_below before [] legal = All-nil IsBelow
  all_below before (item.Pair worker index pair ∷ items) legal =
      All-cons IsBelow index (indexes_of items) legal.0.1.0.below (all_below (before ++ item.Pair worker index pair ∷ []) items legal.1)
  all_below before (item.Skipped worker index skipped ∷ items) legal = all_below (before ++ item.Skipped worker index skipped ∷ []) items legal.1
  all_below before (item.Mined worker prefix alignment candidates ∷ items) legal =
      all_below (before ++ item.Mined worker prefix alignment candidates ∷ []) items legal.1
  all_below before (item.Tried worker prefix alignment why ∷ items) legal = all_below (before ++ item.Tried worker prefix alignment why ∷ []) items legal.1
  all_below before (item.Posted worker found ∷ items) legal = all_below (before ++ item.Posted worker found ∷ []) items legal.1

  all_are : (before items : List Item) → IsLegalBehind subject before items → AllZip (IsPair subject) (indexes_of items) (pairs_of items)
  all_are before [] legal = tt
  all_are before (item.Pair worker index pair ∷ items) legal = (legal.0.1.1, all_are (before ++ item.Pair worker index pair ∷ []) items legal.1)
  all_are before (item.Skipped worker index skipped ∷ items) legal = all_are (before ++ item.Skipped worker index skipped ∷ []) items legal.1
  all_are before (item.Mined worker prefix alignment candidates ∷ items) legal =
      all_are (before ++ item.Mined worker prefix alignment candidates ∷ []) items legal.1
  all_are before (item.Tried worker prefix alignment why ∷ items) legal = all_are (before ++ item.Tried worker prefix alignment why ∷ []) items legal.1
  all_are before (item.Posted worker found ∷ items) legal = all_are (before ++ item.Posted worker found ∷ []) items legal.1

  -- The pairs of a history are those of its indexes.
  pub pairs_at : (items : List Item) → IsUndecided subject items → ArePairsAt subject (indexes_of items) (pairs_of items)
  pairs_at items is = record {
    below = all_below [] items is.legal;
    distinct = risen_apart (indexes_of items) is.rising;
    are = all_are [] items is.legal;
  }

  pub all_pairs : (items : List Item) (number : ℕ) → IsTriedTo subject items number → AreAllPairs subject (indexes_of items) (pairs_of items)
  all_pairs items number so_far = record {
    at = pairs_at items so_far.is;
    all = λ index pair below is. said [] items index pair so_far.is.legal is (so_far.samples index below);
  }

  -- ---- what is posted

  own_behind : (items : List Item) (next : Item) (found : Verdict) → All (λ added. worker_of added ≡ 0) items → worker_of next ≡ 0
      → All (λ added. worker_of added ≡ 0) ((items ++ next ∷ []) ++ item.Posted 0 found ∷ [])
  own_behind items next found own here =
      all_added (λ (added : Item). worker_of added ≡ 0) (items ++ next ∷ []) (item.Posted 0 found)
      (all_added (λ (added : Item). worker_of added ≡ 0) items next own here) refl

  posted_last : (items : List Item) (next : Item) (found : Verdict) → IsOpen items → verdict_of (next ∷ []) ≡ None
      → verdict_of ((items ++ next ∷ []) ++ item.Posted 0 found ∷ []) ≡ Some found
  posted_last items next found undecided still =
      verdict_added (items ++ next ∷ []) (item.Posted 0 found ∷ []) (verdict_added items (next ∷ []) undecided ∙ still)

  -- The history with a pair whose results differ, and the verdict that they do.
  abbrev pub with_difference : List Item → ℕ → Pair → List Item
  with_difference items index pair =
      (items ++ item.Pair 0 index pair ∷ []) ++ item.Posted 0 (Different index pair.input pair.first.result pair.second.result) ∷ []

  pub first_difference : (items : List Item) (index : ℕ) (pair : Pair) → IsSampledTo subject items index
      → IsLegal subject (with_difference items index pair) → HasFirstVerdict subject (with_difference items index pair)
  first_difference items index pair sampled legal = record {
    legal = legal;
    own = own_behind items (item.Pair 0 index pair) (Different index pair.input pair.first.result pair.second.result) sampled.is.own refl;
    found = Different index pair.input pair.first.result pair.second.result;
    posted = posted_last items (item.Pair 0 index pair) (Different index pair.input pair.first.result pair.second.result) sampled.is.undecided refl;
    first = λ earlier other before is.
        All-contains IsEqual (pairs_of items) other sampled.is.equal
        (said [] items earlier other sampled.is.legal is (sampled.samples earlier before));
  }

  -- The history with the candidates of all pairs, and the verdict that a family of them couples the functions.
  abbrev pub with_coupling : List Item → ℕ → Family → Coupling → List Item
  with_coupling items k candidates coupled =
      (items ++ item.Mined 0 (length (pairs_of items)) k candidates ∷ []) ++ item.Posted 0 (Equivalent coupled (indexes_of items)) ∷ []

  pub first_coupling : (items : List Item) (k : ℕ) (candidates : Family) (coupled : Coupling) → IsTriedTo subject items k
      → IsGreatestCoupling subject k (pairs_of items) coupled → IsLegal subject (with_coupling items k candidates coupled)
      → HasFirstVerdict subject (with_coupling items k candidates coupled)
  first_coupling items k candidates coupled so_far greatest legal =
      let mined = item.Mined 0 (length (pairs_of items)) k candidates in
      let found = Equivalent coupled (indexes_of items) in
      record {
        legal = legal;
        own = own_behind items mined found so_far.is.own refl;
        found = found;
        posted = posted_last items mined found so_far.is.undecided refl;
        first = record {
          rising = so_far.is.rising;
          pairs = pairs_of items;
          all = all_pairs items k so_far;
          greatest = subst (λ (n : ℕ). ContainsLinear subject n (pairs_of items) coupled.family) (sym greatest.under) greatest.greatest;
          before = λ alignment named below. both_pass subject (has_tried (length (pairs_of items)) alignment) items mined (item.Posted 0 found)
              (so_far.tried alignment named (omega (arith, below, greatest.under)));
        };
      }

-- ---- what is concluded

-- All items are the worker's.
own_share : (items : List Item) → All (λ added. worker_of added ≡ 0) items → share_of 0 items ≡ length items
own_share [] own = refl
own_share (next ∷ items) own =
    subst (λ (n : ℕ). (if n == 0 then suc (share_of 0 items) else share_of 0 items) ≡ suc (length items))
    (sym (All-head (λ (added : Item). worker_of added ≡ 0) next items own))
    (ap suc (own_share items (All-tail (λ (added : Item). worker_of added ≡ 0) next items own)))

equal_at : (items : List Item) (place worker index : ℕ) (pair : Pair) → HaveEqualResults items
    → slice_get items place ≡ Some (item.Pair worker index pair) → pair.first.result ≡ pair.second.result
equal_at [] place worker index pair equal stands = cc
equal_at (next ∷ items) zero worker index pair equal stands = first_equal next equal (cc)
  where
    first_equal : (next : Item) → HaveEqualResults (next ∷ items) → next ≡ item.Pair worker index pair → pair.first.result ≡ pair.second.result
    first_equal next equal same =
        All-head (λ (p : Pair). p.first.result ≡ p.second.result) pair (pairs_of items)
        (subst (λ (x : Item). HaveEqualResults (x ∷ items)) same equal)
equal_at (next ∷ items) (suc place) worker index pair equal stands = equal_at items place worker index pair (later next equal) stands
  where
    later : (next : Item) → HaveEqualResults (next ∷ items) → HaveEqualResults items
    later (item.Pair w i p) equal = All-tail (λ (p : Pair). p.first.result ≡ p.second.result) p (pairs_of items) equal
    later (item.Skipped w i s) equal = equal
    later (item.Mined w m k f) equal = equal
    later (item.Tried w m k y) equal = equal
    later (item.Posted w v) equal = equal

module _ (state : State) where
  decided : HasFirstVerdict state.subject state.items → IsOpen state.items → ⊥
  decided has undecided = clash (sym has.posted ∙ undecided)
    where
      clash : Some has.found ≡ None → ⊥
      clash same = cc

  -- Where nothing is left, a conclusion is refused for want of memory alone.
  pub conclusion_is_answered : (why : Missing) → IsFinished state.subject state.items → AnswersConclusion state (Err why) → why ≡ missing.Memory
  conclusion_is_answered (missing.Sample index) (inl has) answers = absurd (decided has answers.0)
  conclusion_is_answered (missing.Sample index) (inr tried) answers = absurd (clash (sym (tried.samples index answers.1) ∙ answers.3))
    where
      clash : true ≡ false → ⊥
      clash same = cc
  conclusion_is_answered (missing.Differs place) (inl has) answers = absurd (decided has answers.0.0)
  conclusion_is_answered (missing.Differs place) (inr tried) answers =
      let differs = answers.1 in
      absurd (differs.differ (equal_at state.items place differs.worker differs.index differs.pair tried.is.equal differs.stands))
  conclusion_is_answered (missing.Alignment alignment) (inl has) answers = absurd (decided has answers.0.0)
  conclusion_is_answered (missing.Alignment alignment) (inr tried) answers =
      absurd (clash (sym (tried.tried alignment answers.2 (omega (arith, answers.2.most))) ∙ answers.4))
    where
      clash : true ≡ false → ⊥
      clash same = cc
  conclusion_is_answered missing.Memory finished answers = refl

  all_own : IsFinished state.subject state.items → All (λ added. worker_of added ≡ 0) state.items
  all_own (inl has) = has.own
  all_own (inr tried) = tried.is.own

  all_legal : IsFinished state.subject state.items → IsLegal state.subject state.items
  all_legal (inl has) = has.legal
  all_legal (inr tried) = tried.is.legal

  same_verdict : (v w : Verdict) → verdict_of state.items ≡ Some v → verdict_of state.items ≡ Some w → v ≡ w
  same_verdict v w is other = let same : Some v ≡ Some w = sym is ∙ other in cc

  posted_is_first : (found : Verdict) → IsFinished state.subject state.items → verdict_of state.items ≡ Some found
      → IsFirstVerdict state.subject state.items found
  posted_is_first found (inl has) is =
      subst (IsFirstVerdict state.subject state.items) (same_verdict has.found found has.posted is) has.first
  posted_is_first found (inr tried) is = absurd (clash (sym tried.is.undecided ∙ is))
    where
      clash : None ≡ Some found → ⊥
      clash same = cc

  concluded_is_first : (found : Verdict) → IsFinished state.subject state.items → IsConcluded state found
      → IsFirstVerdict state.subject state.items found
  concluded_is_first (Equivalent coupled indexes) finished concluded = posted_is_first (Equivalent coupled indexes) finished concluded
  concluded_is_first (Different index input first second) finished concluded =
      posted_is_first (Different index input first second) finished concluded
  concluded_is_first (Unknown samples alignments) finished concluded = tt

  -- Where nothing is left, what is concluded solves it, and the worker added all items.
  pub solved_alone : (found : Verdict) → IsFinished state.subject state.items → AnswersConclusion state (Ok found)
      → IsSolvedAlone state.subject (record { verdict = found; history = state.items; shares = length state.items ∷ [] })
  solved_alone found finished answers = record {
    solved = record {
      legal = all_legal finished;
      workers = All-weaker (λ added. worker_of added ≡ 0) (λ added. worker_of added < 1) (λ added own. omega (arith, own)) state.items (all_own finished);
      concluded = answers;
      justified = conclusions_are_justified state found (all_legal finished) answers;
      shares = ap (λ (n : ℕ). n ∷ []) (sym (own_share state.items (all_own finished)));
    };
    first = concluded_is_first found finished answers;
  }
