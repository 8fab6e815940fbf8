-- Histories from their front: what goes on, and that nothing follows a verdict.
use Rattle.std.proofs.Common.{◌<◌, inl, inr, ◌≡◌, ℕ, List, [], ◌∷◌, ◌++◌, None, refl, sym, subst, append_assoc, append-nil}
use Rattle.std.specs.Prelude.{Contains}
use Rattle.c_ast.specs.declared.trace.Pair.{Pair}
use Rattle.c_ast.specs.Comparison.{Comparison}
use Rattle.trace_pair.specs.Pairs.{IsPair}
use Rattle.pool_core.proofs.Listings.{IsOneOf, one_of}
use Rattle.pool_core.specs.declared.item.Item.{Item}
use Rattle.pool_core.specs.declared.item.Item.TheVariants as item
use Rattle.pool_core.specs.declared.verdict.Verdict.{Verdict}
use Rattle.pool_core.specs.declared.verdict.Verdict.TheVariants as verdict
use Rattle.pool_core.specs.Justified.{IsJustified}
use Rattle.pool_core.specs.History.{verdict_of, MayBePosted, IsAllowed, MayFollow, IsLegalBehind, IsLegal}
use Rattle.pool_core.specs.Laws.{FrontsAreLegal, ItemsFollow, HistoriesGoOn, NothingFollowsVerdicts}

module _ (subject : Comparison) where
  front_legal : (before front behind : List Item) → IsLegalBehind subject before (front ++ behind) → IsLegalBehind subject before front
  front_legal before [] behind legal = tt
  front_legal before (x ∷ front) behind legal = (legal.0, front_legal (before ++ x ∷ []) front behind legal.1)

  -- What is left of a legal history is legal behind its front.
  behind_legal : (before front behind : List Item) → IsLegalBehind subject before (front ++ behind)
      → IsLegalBehind subject (before ++ front) behind
  behind_legal before [] behind legal =
      subst (λ (items : List Item). IsLegalBehind subject items behind) (sym (append-nil before)) legal
  behind_legal before (x ∷ front) behind legal =
      subst (λ (items : List Item). IsLegalBehind subject items behind) (append_assoc before (x ∷ []) front)
      (behind_legal (before ++ x ∷ []) front behind legal.1)

  goes_on : (before items : List Item) (next : Item) → IsLegalBehind subject before items → MayFollow subject (before ++ items) next
      → IsLegalBehind subject before (items ++ next ∷ [])
  goes_on before [] next legal may = (subst (λ (items : List Item). MayFollow subject items next) (append-nil before) may, tt)
  goes_on before (x ∷ items) next legal may =
      let may_still = subst (λ (items : List Item). MayFollow subject items next) (sym (append_assoc before (x ∷ []) items)) may in
      (legal.0, goes_on (before ++ x ∷ []) items next legal.1 may_still)

  posted_justified : (before : List Item) (v : Verdict) → MayBePosted subject before v → IsJustified subject v
  posted_justified before (verdict.Equivalent coupled indexes) may = may.0
  posted_justified before (verdict.Different index input first second) may = may.0
  posted_justified before (verdict.Unknown samples alignments) may = absurd may

-- Behind a verdict there is one.
pub found_verdict : (items : List Item) (worker : ℕ) (v : Verdict) → verdict_of (items ++ item.Posted worker v ∷ []) ≡ None → ⊥
found_verdict [] worker v none = cc
found_verdict (item.Pair w index pair ∷ items) worker v none = found_verdict items worker v none
found_verdict (item.Skipped w index skipped ∷ items) worker v none = found_verdict items worker v none
found_verdict (item.Mined w prefix alignment candidates ∷ items) worker v none = found_verdict items worker v none
found_verdict (item.Tried w prefix alignment why ∷ items) worker v none = found_verdict items worker v none
found_verdict (item.Posted w posted ∷ items) worker v none = cc

pub fronts_are_legal : FrontsAreLegal
fronts_are_legal subject front behind legal = front_legal subject [] front behind legal

pub items_follow : ItemsFollow
items_follow subject front next behind legal = (behind_legal subject [] front (next ∷ behind) legal).0

pub histories_go_on : HistoriesGoOn
histories_go_on subject items next legal may = goes_on subject [] items next legal may

none_behind : (subject : Comparison) (front : List Item) (worker : ℕ) (v : Verdict) (behind : List Item)
    → IsLegalBehind subject (front ++ item.Posted worker v ∷ []) behind → behind ≡ []
none_behind subject front worker v [] legal = refl
none_behind subject front worker v (next ∷ behind) legal = absurd (found_verdict front worker v legal.0.0)

pub nothing_follows_verdicts : NothingFollowsVerdicts
nothing_follows_verdicts subject front worker v behind legal =
    let left = behind_legal subject [] front (item.Posted worker v ∷ behind) legal in
    (none_behind subject front worker v behind left.1, posted_justified subject front v left.0.1)

-- The pairs of a legal history are those of their samples.
pair_behind : (subject : Comparison) (before items : List Item) (worker index : ℕ) (pair : Pair)
    → IsLegalBehind subject before items → IsOneOf (item.Pair worker index pair) items
    → (index < subject.settings.samples) × IsPair subject index pair
pair_behind subject before [] worker index pair legal one = absurd one
pair_behind subject before (x ∷ items) worker index pair legal (inl same) =
    let allowed = subst (λ (next : Item). IsAllowed subject before next) (sym same) legal.0.1 in
    (allowed.0.below, allowed.1)
pair_behind subject before (x ∷ items) worker index pair legal (inr one) =
    pair_behind subject (before ++ x ∷ []) items worker index pair legal.1 one

pub pair_of_legal : (subject : Comparison) (items : List Item) (worker index : ℕ) (pair : Pair) → IsLegal subject items
    → Contains items (item.Pair worker index pair) → (index < subject.settings.samples) × IsPair subject index pair
pair_of_legal subject items worker index pair legal has =
    pair_behind subject [] items worker index pair legal (one_of items (item.Pair worker index pair) has)
