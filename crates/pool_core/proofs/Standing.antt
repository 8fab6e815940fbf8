-- An item of a legal history: what stands before it, and what it says of the whole history.
use Rattle.std.proofs.Common.{◌≡◌, ℕ, ◌≤◌, true, inl, inr, List, [], ◌∷◌, ◌++◌, length, take, refl, sym, ap, ◌∙◌, subst, arith, length-append}
use Rattle.std.specs.Prelude.{Contains}
use Rattle.std.specs.List.{list_any}
use Rattle.std.proofs.lemmas.List.{take-append-le}
use Rattle.c_ast.specs.declared.trace.Pair.{Pair}
use Rattle.c_ast.specs.Comparison.{Comparison}
use Rattle.alignment.specs.Number.{IsAlignment}
use Rattle.horn_clauses.specs.declared.family.Family.{Family}
use Rattle.trace_pair.specs.declared.skipped.Skipped.{Skipped}
use Rattle.trace_pair.specs.Pairs.{IsPair, IsSkip}
use Rattle.miners.specs.Candidates.{AreMinedFrom}
use Rattle.pool_core.specs.declared.item.Item.{Item}
use Rattle.pool_core.specs.declared.item.Item.TheVariants as item
use Rattle.pool_core.specs.declared.verdict.Why.{Why}
use Rattle.pool_core.specs.declared.verdict.Verdict.{Verdict}
use Rattle.pool_core.specs.Tried.{IsTried}
use Rattle.pool_core.specs.Justified.{IsJustified}
use Rattle.pool_core.specs.History.{pairs_of, has_mined, MayFollow, IsLegal}
use Rattle.pool_core.proofs.Listings.{IsOneOf, one_of}
use Rattle.pool_core.proofs.Histories.{fronts_are_legal, items_follow, nothing_follows_verdicts}
use Rattle.pool_core.proofs.Finding.{mined_among}

-- ---- where it stands

-- The history is a front, the item, and what is behind it.
pub record Stands (items : List Item) (next : Item) : Type 0 where
  pub front : List Item
  pub behind : List Item
  pub is : items ≡ front ++ next ∷ behind

pub stands_one : (items : List Item) (next : Item) → IsOneOf next items → Stands items next
stands_one [] next one = absurd one
stands_one (first ∷ items) next (inl same) =
    record { front = []; behind = items; is = ap (λ (x : Item). x ∷ items) (sym same) }
stands_one (first ∷ items) next (inr one) =
    let later = stands_one items next one in
    record { front = first ∷ later.front; behind = later.behind; is = ap (λ (xs : List Item). first ∷ xs) later.is }

pub stands : (items : List Item) (next : Item) → Contains items next → Stands items next
stands items next has = stands_one items next (one_of items next has)

-- ---- the pairs of a front

pub pairs_of-append : (xs ys : List Item) → pairs_of (xs ++ ys) ≡ pairs_of xs ++ pairs_of ys
pairs_of-append [] ys = refl
pairs_of-append (item.Pair worker index pair ∷ xs) ys = ap (λ (pairs : List Pair). pair ∷ pairs) (pairs_of-append xs ys)
pairs_of-append (item.Skipped worker index skipped ∷ xs) ys = pairs_of-append xs ys
pairs_of-append (item.Mined worker prefix alignment candidates ∷ xs) ys = pairs_of-append xs ys
pairs_of-append (item.Tried worker prefix alignment why ∷ xs) ys = pairs_of-append xs ys
pairs_of-append (item.Posted worker verdict ∷ xs) ys = pairs_of-append xs ys

-- So many pairs that are in the front are those of the whole.
take_pairs : (m : ℕ) (front behind : List Item) → m ≤ length (pairs_of front) → take m (pairs_of (front ++ behind)) ≡ take m (pairs_of front)
take_pairs m front behind there = ap (take m) (pairs_of-append front behind) ∙ take-append-le m (pairs_of front) (pairs_of behind) there

more_pairs_behind : (m : ℕ) (front behind : List Item) → m ≤ length (pairs_of front) → m ≤ length (pairs_of (front ++ behind))
more_pairs_behind m front behind there =
    let both = ap length (pairs_of-append front behind) ∙ length-append (pairs_of front) (pairs_of behind) in
    omega (arith, there, both)

-- ---- what it says

-- These are the candidates of so many of the pairs.
pub record IsMinedThere (subject : Comparison) (items : List Item) (m k : ℕ) (family : Family) : Type 0 where
  pub there : m ≤ length (pairs_of items)
  pub named : IsAlignment k
  pub mined : AreMinedFrom subject k (take m (pairs_of items)) family

-- The reason is true of the alignment, with the candidates of so many of the pairs.
pub record IsTriedThere (subject : Comparison) (items : List Item) (m k : ℕ) (why : Why) : Type 0 where
  pub there : m ≤ length (pairs_of items)
  pub named : IsAlignment k
  pub tried : IsTried subject k (take m (pairs_of items)) why

module _ (subject : Comparison) where
  may_at : (items : List Item) (next : Item) (at : Stands items next) → IsLegal subject items → MayFollow subject at.front next
  may_at items next at legal = items_follow subject at.front next at.behind (subst (IsLegal subject) at.is legal)

  front_at : (items : List Item) (next : Item) (at : Stands items next) → IsLegal subject items → IsLegal subject at.front
  front_at items next at legal = fronts_are_legal subject at.front (next ∷ at.behind) (subst (IsLegal subject) at.is legal)

  mined_at : (items : List Item) (worker m k : ℕ) (family : Family) → Stands items (item.Mined worker m k family) → IsLegal subject items
      → IsMinedThere subject items m k family
  mined_at items worker m k family at legal =
      let allowed = (may_at items (item.Mined worker m k family) at legal).1 in
      subst (λ (xs : List Item). IsMinedThere subject xs m k family) (sym at.is) (record {
        there = more_pairs_behind m at.front (item.Mined worker m k family ∷ at.behind) allowed.there;
        named = allowed.named;
        mined = subst (λ (pairs : List Pair). AreMinedFrom subject k pairs family)
            (sym (take_pairs m at.front (item.Mined worker m k family ∷ at.behind) allowed.there)) allowed.mined;
      })

  pub mined_there : (items : List Item) (worker m k : ℕ) (family : Family) → IsLegal subject items
      → Contains items (item.Mined worker m k family) → IsMinedThere subject items m k family
  mined_there items worker m k family legal has = mined_at items worker m k family (stands items (item.Mined worker m k family) has) legal

  pub any_mined_there : (items : List Item) (m k : ℕ) → IsLegal subject items → list_any (has_mined m k) items ≡ true
      → (family : Family) × IsMinedThere subject items m k family
  any_mined_there items m k legal any =
      let r = mined_among items m k any in
      (r.family, mined_at items r.worker m k r.family (stands_one items (item.Mined r.worker m k r.family) r.one) legal)

  pub tried_there : (items : List Item) (worker m k : ℕ) (why : Why) → IsLegal subject items → Contains items (item.Tried worker m k why)
      → IsTriedThere subject items m k why
  tried_there items worker m k why legal has =
      let at = stands items (item.Tried worker m k why) has in
      let allowed = (may_at items (item.Tried worker m k why) at legal).1 in
      let mined = any_mined_there at.front m k (front_at items (item.Tried worker m k why) at legal) allowed.mined in
      subst (λ (xs : List Item). IsTriedThere subject xs m k why) (sym at.is) (record {
        there = more_pairs_behind m at.front (item.Tried worker m k why ∷ at.behind) mined.1.there;
        named = mined.1.named;
        tried = subst (λ (pairs : List Pair). IsTried subject k pairs why)
            (sym (take_pairs m at.front (item.Tried worker m k why ∷ at.behind) mined.1.there)) allowed.tried;
      })

  pub pair_there : (items : List Item) (worker index : ℕ) (pair : Pair) → IsLegal subject items → Contains items (item.Pair worker index pair)
      → IsPair subject index pair
  pair_there items worker index pair legal has =
      let at = stands items (item.Pair worker index pair) has in (may_at items (item.Pair worker index pair) at legal).1.1

  pub skip_there : (items : List Item) (worker index : ℕ) (skipped : Skipped) → IsLegal subject items
      → Contains items (item.Skipped worker index skipped) → IsSkip subject index skipped
  skip_there items worker index skipped legal has =
      let at = stands items (item.Skipped worker index skipped) has in (may_at items (item.Skipped worker index skipped) at legal).1.1

  pub posted_there : (items : List Item) (worker : ℕ) (verdict : Verdict) → IsLegal subject items → IsOneOf (item.Posted worker verdict) items
      → IsJustified subject verdict
  posted_there items worker verdict legal one =
      let at = stands_one items (item.Posted worker verdict) one in
      (nothing_follows_verdicts subject at.front worker verdict at.behind (subst (IsLegal subject) at.is legal)).1
