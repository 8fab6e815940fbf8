-- What each step of one worker alone leaves.
use Rattle.std.proofs.Common.{◌≡◌, ◌≢◌, ◌⊎◌, inl, inr, ℕ, suc, Bool, true, false, List, length, Result, Ok, Err, IfOk, IfErr, refl, sym, ap, ◌∙◌, subst}
use Rattle.c_ast.specs.Comparison.{Comparison}
use Rattle.c_ast.specs.declared.trace.Pair.{Pair}
use Rattle.horn_clauses.specs.declared.family.Family.{Family}
use Rattle.alignment.specs.Number.{IsAlignment}
use Rattle.path_product.specs.declared.limit.ProductLimit.{ProductLimit}
use Rattle.path_product.specs.declared.limit.ProductLimit.TheVariants as limit
use Rattle.relation.specs.Coupled.{Coupling, HasLimit}
use Rattle.trace_pair.specs.declared.pairs.Graphs.{Graphs}
use Rattle.pool_core.specs.declared.item.Item.{Item}
use Rattle.pool_core.specs.declared.item.Item.TheVariants as item
use Rattle.pool_core.specs.declared.verdict.Verdict.{Verdict}
use Rattle.pool_core.specs.declared.verdict.Verdict.TheVariants.{Different, Equivalent}
use Rattle.pool_core.specs.declared.verdict.Why.{Why}
use Rattle.pool_core.specs.declared.verdict.Why.TheVariants.{Product}
use Rattle.pool_core.specs.History.{pairs_of, indexes_of, IsLegal}
use Rattle.pool_core.specs.Plays.{State, Snapshot, snapshot_of, with_item, item_of, Mine, Try}
use Rattle.workers.specs.declared.search.Found.{Found}
use Rattle.workers.specs.declared.search.Found.TheVariants.{Refused}
use Rattle.workers.specs.Alone.{GoesOn, HasFirstVerdict, IsGroundOf, IsSampledTo, IsTriedTo}
use Rattle.workers.specs.Found.{IsGreatestCoupling, Finds}
use Rattle.workers.specs.Ground.{Cases, AreCasesOf, LimitsAll}
use Rattle.workers.proofs.Trying.{next_tried}
use Rattle.workers.proofs.Concluding.{first_difference, first_coupling}

-- What all alignments share, by what its making answers.
pub ground_of : (subject : Comparison) (graphs : Graphs) (made : Result Cases ProductLimit) → IfOk made (AreCasesOf subject graphs)
    → IfErr made (LimitsAll subject) → IsGroundOf subject graphs made
ground_of subject graphs (Ok cases) is limit = is
ground_of subject graphs (Err why) is limit = limit

-- A limit that was met is true of the alignment.
pub limited_is_tried : {E : Type 0} (subject : Comparison) (k : ℕ) (why : ProductLimit) (answer : Result Found E)
    → IfOk answer (λ found. (found ≡ Refused (Product why)) × (why ≢ limit.Memory)) → (why ≡ limit.Memory) ⊎ HasLimit subject k why
    → (pairs : List Pair) → IfOk answer (Finds subject k pairs)
limited_is_tried subject k why (Ok found) is (inl same) pairs = absurd (is.1 same)
limited_is_tried subject k why (Ok found) is (inr has) pairs = subst (Finds subject k pairs) (sym is.0) has
limited_is_tried subject k why (Err lacks) is met pairs = tt

-- A limit that each alignment has is that of this one.
pub limit_here : (subject : Comparison) (k : ℕ) (why : ProductLimit) → IsAlignment k → LimitsAll subject why
    → (why ≡ limit.Memory) ⊎ HasLimit subject k why
limit_here subject k why named (inl same) = inl same
limit_here subject k why named (inr all) = inr (all k named)

-- Where no verdict is posted it goes on.
pub goes_on : (found : Bool) (subject : Comparison) (items : List Item) (Others : Type 0) → found ≡ false
    → GoesOn found subject items Others → Others
goes_on true subject items Others unposted goes = absurd cc
goes_on false subject items Others unposted goes = goes

-- The history of a pool that became this one is legal.
legal_of : (subject : Comparison) (old new next : State) → old.subject ≡ subject → new ≡ next → next.subject ≡ old.subject
    → IsLegal new.subject new.items → IsLegal subject next.items
legal_of subject old new next own same kept legal =
    subst (λ (s : Comparison). IsLegal s next.items) (kept ∙ own) (subst (λ (s : State). IsLegal s.subject s.items) same legal)

module _ (subject : Comparison) (old mid new : State) (own : old.subject ≡ subject) where
  -- A pair whose results differ, and then the verdict.
  pub difference_posted : (index : ℕ) (pair : Pair) (found : Verdict) → IsSampledTo subject old.items index
      → found ≡ Different index pair.input pair.first.result pair.second.result → mid ≡ with_item old (item.Pair 0 index pair)
      → new ≡ with_item mid (item.Posted 0 found) → IsLegal new.subject new.items → HasFirstVerdict subject new.items
  difference_posted index pair found sampled is first second legal =
      let next = with_item (with_item old (item.Pair 0 index pair)) (item.Posted 0 (Different index pair.input pair.first.result pair.second.result)) in
      let same : new ≡ next = second ∙ ap (λ (s : State). with_item s (item.Posted 0 found)) first
      ∙ ap (λ (v : Verdict). with_item (with_item old (item.Pair 0 index pair)) (item.Posted 0 v)) is in
      subst (λ (s : State). HasFirstVerdict subject s.items) (sym same)
      (first_difference subject old.items index pair sampled (legal_of subject old new next own same refl legal))

  -- The candidates of all pairs were added.
  pub candidates_added : (k : ℕ) (candidates : Family) (snapshot : Snapshot) → snapshot ≡ snapshot_of old
      → mid ≡ with_item old (item_of (Mine 0 snapshot k candidates))
      → mid ≡ with_item old (item.Mined 0 (length (pairs_of old.items)) k candidates)
  candidates_added k candidates snapshot is changes = changes ∙ ap (λ (s : Snapshot). with_item old (item_of (Mine 0 s k candidates))) is

  -- The candidates of all pairs, and then that a family of them couples the functions.
  pub coupling_posted : (k : ℕ) (candidates : Family) (snapshot : Snapshot) (coupled : Coupling) (indexes : List ℕ) → IsTriedTo subject old.items k
      → IsGreatestCoupling subject k (pairs_of old.items) coupled → snapshot ≡ snapshot_of old → indexes ≡ snapshot.indexes
      → mid ≡ with_item old (item_of (Mine 0 snapshot k candidates)) → new ≡ with_item mid (item.Posted 0 (Equivalent coupled indexes))
      → IsLegal new.subject new.items → HasFirstVerdict subject new.items
  coupling_posted k candidates snapshot coupled indexes so_far greatest is listed first second legal =
      let mined = item.Mined 0 (length (pairs_of old.items)) k candidates in
      let next = with_item (with_item old mined) (item.Posted 0 (Equivalent coupled (indexes_of old.items))) in
      let all : indexes ≡ indexes_of old.items = listed ∙ ap (λ (s : Snapshot). s.indexes) is in
      let same : new ≡ next = second ∙ ap (λ (s : State). with_item s (item.Posted 0 (Equivalent coupled indexes))) (candidates_added k candidates snapshot is first)
      ∙ ap (λ (some : List ℕ). with_item (with_item old mined) (item.Posted 0 (Equivalent coupled some))) all in
      subst (λ (s : State). HasFirstVerdict subject s.items) (sym same)
      (first_coupling subject old.items k candidates coupled so_far greatest (legal_of subject old new next own same refl legal))

  -- The candidates of all pairs, and then why they have no coupling.
  pub reason_added : (k : ℕ) (candidates : Family) (snapshot : Snapshot) (why : Why) → IsTriedTo subject old.items k → snapshot ≡ snapshot_of old
      → mid ≡ with_item old (item_of (Mine 0 snapshot k candidates)) → new ≡ with_item mid (item_of (Try 0 snapshot k why))
      → IsLegal new.subject new.items → IsTriedTo subject new.items (suc k)
  reason_added k candidates snapshot why so_far is first second legal =
      let mined = item.Mined 0 (length (pairs_of old.items)) k candidates in
      let next = with_item (with_item old mined) (item.Tried 0 (length (pairs_of old.items)) k why) in
      let same : new ≡ next = second ∙ ap (λ (s : State). with_item s (item_of (Try 0 snapshot k why))) (candidates_added k candidates snapshot is first)
      ∙ ap (λ (s : Snapshot). with_item (with_item old mined) (item_of (Try 0 s k why))) is in
      subst (λ (s : State). IsTriedTo subject s.items (suc k)) (sym same)
      (next_tried subject old.items k candidates why so_far (legal_of subject old new next own same refl legal))
