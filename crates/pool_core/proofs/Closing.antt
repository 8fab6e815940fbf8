-- What a legal history has once: candidates of so many pairs under an alignment, and a verdict, at its end.
use Rattle.std.proofs.Common.{◌≡◌, ℕ, ◌-◌, true, false, inl, inr, List, [], ◌∷◌, ◌++◌, length, Option, Some, None, refl, sym, ap, ◌∙◌, subst, arith}
use Rattle.std.specs.Prelude.{Contains, slice_get}
use Rattle.std.specs.List.{list_any}
use Rattle.std.proofs.lemmas.List.Folds.{list_any-append}
use Rattle.std.proofs.lemmas.Bool.{or_left, or_right}
use Rattle.c_ast.specs.Comparison.{Comparison}
use Rattle.horn_clauses.specs.declared.family.Family.{Family}
use Rattle.pool_core.specs.declared.item.Item.{Item}
use Rattle.pool_core.specs.declared.item.Item.TheVariants as item
use Rattle.pool_core.specs.declared.verdict.Verdict.{Verdict}
use Rattle.pool_core.specs.History.{has_mined, verdict_of, IsOpen, IsAllowed, IsLegalBehind, IsLegal}
use Rattle.pool_core.proofs.Listings.{IsOneOf, one_of}
use Rattle.pool_core.proofs.Histories.{found_verdict}
use Rattle.pool_core.proofs.Finding.{equal_numbers}

-- ---- candidates

module _ (subject : Comparison) (m k : ℕ) where
  abbrev IsMined : ℕ → Family → Item → Type 0
  IsMined worker family next = next ≡ item.Mined worker m k family

  stays : (before : List Item) (next : Item) → list_any (has_mined m k) before ≡ true → list_any (has_mined m k) (before ++ next ∷ []) ≡ true
  stays before next there =
      list_any-append (has_mined m k) before (next ∷ []) ∙ or_left (list_any (has_mined m k) before) (list_any (has_mined m k) (next ∷ [])) there

  comes : (before : List Item) (worker : ℕ) (family : Family) → list_any (has_mined m k) (before ++ item.Mined worker m k family ∷ []) ≡ true
  comes before worker family =
      list_any-append (has_mined m k) before (item.Mined worker m k family ∷ [])
      ∙ or_right (list_any (has_mined m k) before) (list_any (has_mined m k) (item.Mined worker m k family ∷ []))
      (or_left (has_mined m k (item.Mined worker m k family)) false (equal_numbers m k))

  -- What was mined is not mined again.
  not_again : (before items : List Item) (worker : ℕ) (family : Family) → list_any (has_mined m k) before ≡ true
      → IsLegalBehind subject before items → IsOneOf (item.Mined worker m k family) items → ⊥
  not_again before [] worker family there legal one = one
  not_again before (x ∷ items) worker family there legal (inl same) =
      let allowed : IsAllowed subject before (item.Mined worker m k family) =
      subst (IsAllowed subject before) (sym same) legal.0.1 in
      let clash : true ≡ false = sym there ∙ allowed.new in
      cc
  not_again before (x ∷ items) worker family there legal (inr one) =
      not_again (before ++ x ∷ []) items worker family (stays before x there) legal.1 one

  once_behind : (before items : List Item) (v w : ℕ) (f g : Family) → IsLegalBehind subject before items
      → IsOneOf (item.Mined v m k f) items → IsOneOf (item.Mined w m k g) items → f ≡ g
  once_behind before [] v w f g legal one other = absurd one
  once_behind before (x ∷ items) v w f g legal (inl one) (inl other) =
      let same : item.Mined v m k f ≡ item.Mined w m k g = one ∙ sym other in cc
  once_behind before (x ∷ items) v w f g legal (inl one) (inr other) =
      let there = subst (λ (y : Item). list_any (has_mined m k) (before ++ y ∷ []) ≡ true) one (comes before v f) in
      absurd (not_again (before ++ x ∷ []) items w g there legal.1 other)
  once_behind before (x ∷ items) v w f g legal (inr one) (inl other) =
      let there = subst (λ (y : Item). list_any (has_mined m k) (before ++ y ∷ []) ≡ true) other (comes before w g) in
      absurd (not_again (before ++ x ∷ []) items v f there legal.1 one)
  once_behind before (x ∷ items) v w f g legal (inr one) (inr other) = once_behind (before ++ x ∷ []) items v w f g legal.1 one other

  -- Two families that were mined of so many pairs under the alignment are one.
  pub mined_once : (items : List Item) (v w : ℕ) (f g : Family) → IsLegal subject items → Contains items (item.Mined v m k f)
      → Contains items (item.Mined w m k g) → f ≡ g
  mined_once items v w f g legal one other =
      once_behind [] items v w f g legal (one_of items (item.Mined v m k f) one) (one_of items (item.Mined w m k g) other)

-- ---- verdicts

-- The item's verdict, where it is one.
abbrev pub verdict_in : Item → Option Verdict
verdict_in (item.Posted worker verdict) = Some verdict
verdict_in _ = None

-- That of the item, where there is one.
abbrev pub verdict_at : Option Item → Option Verdict
verdict_at None = None
verdict_at (Some next) = verdict_in next

verdict_alone : (x : Item) → verdict_of (x ∷ []) ≡ verdict_in x
verdict_alone (item.Pair worker index pair) = refl
verdict_alone (item.Skipped worker index skipped) = refl
verdict_alone (item.Mined worker prefix alignment candidates) = refl
verdict_alone (item.Tried worker prefix alignment why) = refl
verdict_alone (item.Posted worker verdict) = refl

-- Behind an item that is not the last the verdict is that of the others.
verdict_behind : (before : List Item) (x : Item) (items : List Item) → IsOpen (before ++ x ∷ []) → verdict_of (x ∷ items) ≡ verdict_of items
verdict_behind before (item.Pair worker index pair) items undecided = refl
verdict_behind before (item.Skipped worker index skipped) items undecided = refl
verdict_behind before (item.Mined worker prefix alignment candidates) items undecided = refl
verdict_behind before (item.Tried worker prefix alignment why) items undecided = refl
verdict_behind before (item.Posted worker verdict) items undecided = absurd (found_verdict before worker verdict undecided)

last_behind : (subject : Comparison) (before : List Item) (x : Item) (items : List Item) → IsLegalBehind subject before (x ∷ items)
    → verdict_of (x ∷ items) ≡ verdict_at (slice_get (x ∷ items) (length items))
last_behind subject before x [] legal = verdict_alone x
last_behind subject before x (y ∷ items) legal =
    verdict_behind before x (y ∷ items) legal.1.0.0 ∙ last_behind subject (before ++ x ∷ []) y items legal.1

-- The verdict of a legal history is that of its last item.
pub last_verdict : (subject : Comparison) (items : List Item) → IsLegal subject items
    → verdict_of items ≡ verdict_at (slice_get items (length items - 1))
last_verdict subject [] legal = refl
last_verdict subject (x ∷ items) legal =
    let one_less : length items ≡ length (x ∷ items) - 1 = omega arith in
    last_behind subject [] x items legal ∙ ap (λ (n : ℕ). verdict_at (slice_get (x ∷ items) n)) one_less
