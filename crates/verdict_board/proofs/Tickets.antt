-- One ticket: what each change of a view does to the numbers that the passes hold.
use Rattle.std.proofs.Common.{◌≡◌, ℕ, ◌+◌, ◌<◌, ◌≤◌, ◌==◌, if◌then◌else◌, zero, suc, List, [], ◌∷◌, ◌++◌, set, refl, sym, ap, subst, ◌∙◌, ⊎_elim, arith}
use Rattle.std.proofs.lemmas.Bool.Decides.{nat_tests}
use mathlib.Core.Option.{some, some-ne-none}
use lib.ListN.{get_elem?}
use Rattle.atomic_table.proofs.Lists.{at_set, at_snoc}
use Rattle.verdict_board.specs.declared.view.View.{View}
use Rattle.verdict_board.specs.Numbers.{times, past, once_below, AreBelow}
use Rattle.verdict_board.specs.Rule.{total, IsDealt}
use Rattle.verdict_board.proofs.Totals.{total_set, total_push, total_has, total_mono, total_only}

pub times-append : (x : ℕ) (xs ys : List ℕ) → times x (xs ++ ys) ≡ times x xs + times x ys
times-append x [] ys = omega arith
times-append x (y ∷ ys) zs = let others = times-append x ys zs in omega arith

past-append : (n : ℕ) (xs ys : List ℕ) → past n (xs ++ ys) ≡ past n xs + past n ys
past-append n [] ys = omega arith
past-append n (y ∷ ys) zs = let others = past-append n ys zs in omega arith

-- a number below the limit is not past it
pub past_push : (limit n : ℕ) (xs : List ℕ) → past limit xs ≡ 0 → n < limit → past limit (xs ++ n ∷ []) ≡ 0
past_push limit n xs none below = let more = past-append limit xs (n ∷ []) in grind (arith, nat_tests)

once_more : (x n : ℕ) → once_below x (n + 1) ≡ once_below x n + (if n == x then 1 else 0)
once_more x n = grind (arith, nat_tests)

once_at : (n : ℕ) → once_below n n ≡ 0
once_at n = grind (arith, nat_tests)

once-le : (x n : ℕ) → once_below x n ≤ 1
once-le x n = grind (arith, nat_tests)

-- a view stands where it was written over another
pub there_after : (views : List View) (id : ℕ) (v w : View) → get_elem? views id ≡ some v → get_elem? (set views id w) id ≡ some w
there_after [] id v w at = absurd (some-ne-none v (sym at))
there_after (u ∷ us) zero v w at = refl
there_after (u ∷ us) (suc id) v w at = there_after us id v w at

-- what holds of all views holds of them after one changed
pub each_set : (P : View → Type 0) (views : List View) (id : ℕ) (w : View) → ((i : ℕ) (u : View) → get_elem? views i ≡ some u → P u) → P w
    → (i : ℕ) (u : View) → get_elem? (set views id w) i ≡ some u → P u
each_set P views id w each own i u there = ⊎_elim (λ t. subst P t.1 own) (λ t. each i u t.1) (at_set views id i w u there)

-- and after one was added
pub each_push : (P : View → Type 0) (views : List View) (w : View) → ((i : ℕ) (u : View) → get_elem? views i ≡ some u → P u) → P w
    → (i : ℕ) (u : View) → get_elem? (views ++ w ∷ []) i ≡ some u → P u
each_push P views w each own i u there = ⊎_elim (λ old. each i u old) (λ new. subst P new own) (at_snoc views w u i there)

module _ (limit : ℕ) (drawn : View → List ℕ) where
  -- the ticket stays, the view holds the same numbers
  pub dealt_still : (word : ℕ) (views : List View) (id : ℕ) (v w : View) → get_elem? views id ≡ some v → drawn w ≡ drawn v → w.weight ≡ v.weight
      → IsDealt limit word drawn views → IsDealt limit word drawn (set views id w)
  dealt_still word views id v w at same weight dealt =
      let few = dealt.few id v at in
      let same_past = ap (λ (xs : List ℕ). past limit xs) same in
      record {
        once = λ x.
            let s = total_set (λ u. times x (drawn u)) views id v w at in
            let k = dealt.once x in
            let e = ap (λ (xs : List ℕ). times x xs) same in
            omega arith;
        near = let s = total_set (λ u. past limit (drawn u)) views id v w at in let k = dealt.near in omega arith;
        few = each_set (λ u. past limit (drawn u) ≤ u.weight) views id w dealt.few (omega arith);
      }

  -- the ticket's number is drawn
  pub dealt_more : (word : ℕ) (views : List View) (id : ℕ) (v w : View) → get_elem? views id ≡ some v → drawn w ≡ drawn v ++ word ∷ [] → w.weight ≡ v.weight
      → 0 < v.weight → past limit (drawn v) ≡ 0 → IsDealt limit word drawn views → IsDealt limit (word + 1) drawn (set views id w)
  dealt_more word views id v w at more weight live below dealt =
      let past_more = ap (λ (xs : List ℕ). past limit xs) more ∙ past-append limit (drawn v) (word ∷ []) in
      record {
        once = λ x.
            let s = total_set (λ u. times x (drawn u)) views id v w at in
            let k = dealt.once x in
            let e = ap (λ (xs : List ℕ). times x xs) more ∙ times-append x (drawn v) (word ∷ []) in
            let n = once_more x word in
            omega arith;
        near = let s = total_set (λ u. past limit (drawn u)) views id v w at in let k = dealt.near in grind (arith, nat_tests);
        few = each_set (λ u. past limit (drawn u) ≤ u.weight) views id w dealt.few (grind (arith, nat_tests));
      }

  -- a view is cut in two, and the second has no numbers
  pub dealt_split : (word : ℕ) (views : List View) (id : ℕ) (v left right : View) → get_elem? views id ≡ some v → drawn left ≡ drawn v → left.weight ≡ v.weight
      → drawn right ≡ [] → IsDealt limit word drawn views → IsDealt limit word drawn (set views id left ++ right ∷ [])
  dealt_split word views id v left right at same weight none dealt =
      let still = dealt_still word views id v left at same weight dealt in
      let no_past = ap (λ (xs : List ℕ). past limit xs) none in
      record {
        once = λ x.
            let p = total_push (λ u. times x (drawn u)) (set views id left) right in
            let k = still.once x in
            let e = ap (λ (xs : List ℕ). times x xs) none in
            omega arith;
        near = let p = total_push (λ u. past limit (drawn u)) (set views id left) right in let k = still.near in omega arith;
        few = each_push (λ u. past limit (drawn u) ≤ u.weight) (set views id left) right still.few (omega arith);
      }

  -- a view takes in another, which is spent
  pub dealt_join : (word : ℕ) (views : List View) (id : ℕ) (v : View) (other : ℕ) (w both spent : View) → get_elem? views id ≡ some v
      → get_elem? views other ≡ some w → get_elem? (set views id both) other ≡ some w
      → drawn both ≡ drawn v ++ drawn w → both.weight ≡ v.weight + w.weight → drawn spent ≡ []
      → IsDealt limit word drawn views → IsDealt limit word drawn (set (set views id both) other spent)
  dealt_join word views id v other w both spent at there between more weight none dealt =
      let mid = set views id both in
      let few_v = dealt.few id v at in
      let few_w = dealt.few other w there in
      let past_more = ap (λ (xs : List ℕ). past limit xs) more ∙ past-append limit (drawn v) (drawn w) in
      let no_past = ap (λ (xs : List ℕ). past limit xs) none in
      record {
        once = λ x.
            let a = total_set (λ u. times x (drawn u)) mid other w spent between in
            let b = total_set (λ u. times x (drawn u)) views id v both at in
            let k = dealt.once x in
            let j = ap (λ (xs : List ℕ). times x xs) more ∙ times-append x (drawn v) (drawn w) in
            let e = ap (λ (xs : List ℕ). times x xs) none in
            omega arith;
        near =
            let a = total_set (λ u. past limit (drawn u)) mid other w spent between in
            let b = total_set (λ u. past limit (drawn u)) views id v both at in
            let k = dealt.near in
            omega arith;
        few = each_set (λ u. past limit (drawn u) ≤ u.weight) mid other spent
            (each_set (λ u. past limit (drawn u) ≤ u.weight) views id both dealt.few (omega arith)) (omega arith);
      }

  -- the word stays below the limit and the number of passes together
  pub dealt_near : (word all : ℕ) (views : List View) → total (λ v. v.weight + v.splits) views ≡ all → IsDealt limit word drawn views → word ≤ limit + all
  dealt_near word all views parts dealt =
      let most = total_mono (λ v. past limit (drawn v)) (λ v. v.weight + v.splits) views (λ i v at. let few = dealt.few i v at in omega arith) in
      omega (arith, dealt.near, parts)

  -- no view holds the number that the ticket gives next
  pub dealt_unseen : (word : ℕ) (views : List View) (id : ℕ) (v : View) → get_elem? views id ≡ some v → IsDealt limit word drawn views
      → times word (drawn v) ≡ 0
  dealt_unseen word views id v at dealt =
      let has = total_has (λ u. times word (drawn u)) views id v at in
      let all = dealt.once word in
      let none = once_at word in
      omega arith

  -- a view holds no number twice
  pub dealt_distinct : (word : ℕ) (views : List View) (id : ℕ) (v : View) → get_elem? views id ≡ some v → IsDealt limit word drawn views → (x : ℕ)
      → times x (drawn v) ≤ 1
  dealt_distinct word views id v at dealt x =
      let has = total_has (λ u. times x (drawn u)) views id v at in
      let all = dealt.once x in
      let one = once-le x word in
      omega arith

  -- the only view that is not spent holds all numbers below the word
  pub dealt_gapless : (word : ℕ) (views : List View) (id : ℕ) (v : View) → get_elem? views id ≡ some v
      → total (λ u. u.weight + u.splits) views ≡ v.weight + v.splits
      → ((i : ℕ) (u : View) → get_elem? views i ≡ some u → u.weight + u.splits ≡ 0 → drawn u ≡ []) → IsDealt limit word drawn views → AreBelow word (drawn v)
  dealt_gapless word views id v at alone idle dealt x =
      let only = total_only (λ u. u.weight + u.splits) (λ u. times x (drawn u)) views id v at alone
      (λ i u there none. ap (λ (xs : List ℕ). times x xs) (idle i u there none)) in
      sym only ∙ dealt.once x
