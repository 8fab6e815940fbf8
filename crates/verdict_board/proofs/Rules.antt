-- The rule: what each change of a view and of a word keeps of it, and what a view knows by it.
use Rattle.std.proofs.Common.{◌≡◌, ℕ, ◌+◌, ◌<◌, ◌≤◌, List, [], ◌∷◌, ◌++◌, set, refl, sym, ap, ◌∙◌, ⊎_elim, arith}
use Rattle.std.proofs.lemmas.Bool.{false≢true, or_cases}
use mathlib.Core.Option.{some}
use lib.ListN.{get_elem?}
use Rattle.atomic_table.proofs.Lists.{set_else}
use Rattle.verdict_board.specs.declared.view.View.{View}
use Rattle.verdict_board.specs.declared.view.Limits.{Limits}
use Rattle.verdict_board.specs.Views.{Knows, IsComplete, IsWhole, split_left, split_right, joined, spent_view}
use Rattle.verdict_board.specs.Rule.{total, IsDealt, IsTold, IsKept}
use Rattle.verdict_board.proofs.Totals.{total_set, total_push, total_has, total_only}
use Rattle.verdict_board.proofs.Tickets.{each_set, each_push, dealt_split, dealt_join, dealt_distinct, dealt_gapless}

-- one view changes, and the words with it
pub kept_set : (key : Limits) (stop sample alignment stop' sample' alignment' : ℕ) (views : List View) (id : ℕ) (v w : View)
    → IsKept key stop sample alignment views → get_elem? views id ≡ some v → stop' ≤ 1 → (stop ≡ 1 → stop' ≡ 1)
    → w.raises + stop ≡ v.raises + stop' → w.weight + w.splits ≡ v.weight + v.splits
    → IsDealt key.samples sample' (λ u. u.samples.drawn) (set views id w)
    → IsDealt key.alignments alignment' (λ u. u.alignments.drawn) (set views id w)
    → IsTold stop' w → IsKept key stop' sample' alignment' (set views id w)
kept_set key stop sample alignment stop' sample' alignment' views id v w kept at flag rises wins weighs samples alignments told =
    record {
      flag = flag;
      raised = let s = total_set (λ u. u.raises) views id v w at in let k = kept.raised in omega arith;
      samples = samples;
      alignments = alignments;
      parts = let s = total_set (λ u. u.weight + u.splits) views id v w at in let k = kept.parts in omega arith;
      each = each_set (IsTold stop') views id w (λ i u there. let is = kept.each i u there in record { seen = λ e. rises (is.seen e); spent = is.spent }) told;
    }

-- a pass is split off
pub kept_split : (key : Limits) (stop sample alignment : ℕ) (views : List View) (id : ℕ) (v : View)
    → IsKept key stop sample alignment views → get_elem? views id ≡ some v → 0 < v.weight → 0 < v.splits
    → IsKept key stop sample alignment (set views id (split_left v) ++ split_right v ∷ [])
kept_split key stop sample alignment views id v kept at live left =
    let one : View = split_left v in
    let new : View = split_right v in
    let own = kept.each id v at in
    record {
      flag = kept.flag;
      raised =
          let a = total_push (λ u. u.raises) (set views id one) new in
          let b = total_set (λ u. u.raises) views id v one at in
          let k = kept.raised in
          omega arith;
      samples = dealt_split key.samples (λ u. u.samples.drawn) sample views id v one new at refl refl refl kept.samples;
      alignments = dealt_split key.alignments (λ u. u.alignments.drawn) alignment views id v one new at refl refl refl kept.alignments;
      parts =
          let a = total_push (λ u. u.weight + u.splits) (set views id one) new in
          let b = total_set (λ u. u.weight + u.splits) views id v one at in
          let k = kept.parts in
          omega arith;
      each = each_push (IsTold stop) (set views id one) new
          (each_set (IsTold stop) views id one kept.each (record { seen = own.seen; spent = λ none. absurd (omega arith) }))
          (record { seen = own.seen; spent = λ none. absurd (omega arith) });
    }

-- a pass takes in another
pub kept_join : (key : Limits) (stop sample alignment : ℕ) (views : List View) (id : ℕ) (v : View) (other : ℕ) (w : View)
    → IsKept key stop sample alignment views → get_elem? views id ≡ some v → 0 < v.weight → ¬ (other ≡ id)
    → get_elem? (set views id (joined v w)) other ≡ some w
    → IsKept key stop sample alignment (set (set views id (joined v w)) other spent_view)
kept_join key stop sample alignment views id v other w kept at live apart between =
    let both : View = joined v w in
    let mid = set views id both in
    let there = sym (set_else views id other both apart) ∙ between in
    let own = kept.each id v at in
    let theirs = kept.each other w there in
    record {
      flag = kept.flag;
      raised =
          let a = total_set (λ u. u.raises) mid other w spent_view between in
          let b = total_set (λ u. u.raises) views id v both at in
          let k = kept.raised in
          omega arith;
      samples = dealt_join key.samples (λ u. u.samples.drawn) sample views id v other w both spent_view at there between refl refl refl kept.samples;
      alignments = dealt_join key.alignments (λ u. u.alignments.drawn) alignment views id v other w both spent_view at there between refl refl refl
          kept.alignments;
      parts =
          let a = total_set (λ u. u.weight + u.splits) mid other w spent_view between in
          let b = total_set (λ u. u.weight + u.splits) views id v both at in
          let k = kept.parts in
          omega arith;
      each = each_set (IsTold stop) mid other spent_view
          (each_set (IsTold stop) views id both kept.each
          (record { seen = λ e. ⊎_elim own.seen theirs.seen (or_cases v.seen w.seen e); spent = λ none. absurd (omega arith) }))
          (record { seen = λ e. absurd (false≢true e); spent = λ none. refl });
    }

-- what a pass into which all were joined knows
kept_complete : (key : Limits) (stop sample alignment : ℕ) (views : List View) (id : ℕ) (v : View)
    → IsKept key stop sample alignment views → get_elem? views id ≡ some v → v.passes ≡ key.passes → IsWhole v → IsComplete v
kept_complete key stop sample alignment views id v kept at passes whole =
    let parts = kept.parts in
    let alone : total (λ u. u.weight + u.splits) views ≡ v.weight + v.splits = omega arith in
    let idle : (i : ℕ) (u : View) → get_elem? views i ≡ some u → u.weight + u.splits ≡ 0 → u ≡ spent_view =
    λ i u there none. (kept.each i u there).spent (omega arith) in
    let raised = total_only (λ u. u.weight + u.splits) (λ u. u.raises) views id v at alone
    (λ i u there none. ap (λ (y : View). y.raises) (idle i u there none)) in
    record {
      samples = (
        sample,
        dealt_gapless key.samples (λ u. u.samples.drawn) sample views id v at alone
            (λ i u there none. ap (λ (y : View). y.samples.drawn) (idle i u there none)) kept.samples,
      );
      alignments = (
        alignment,
        dealt_gapless key.alignments (λ u. u.alignments.drawn) alignment views id v at alone
            (λ i u there none. ap (λ (y : View). y.alignments.drawn) (idle i u there none)) kept.alignments,
      );
      stopped = λ seen. let k = kept.raised in let up = (kept.each id v at).seen seen in omega arith;
    }

-- what each pass knows
pub kept_knows : (key : Limits) (stop sample alignment : ℕ) (views : List View) (id : ℕ) (v : View)
    → IsKept key stop sample alignment views → get_elem? views id ≡ some v → v.passes ≡ key.passes → Knows v
kept_knows key stop sample alignment views id v kept at passes =
    record {
      samples = dealt_distinct key.samples (λ u. u.samples.drawn) sample views id v at kept.samples;
      alignments = dealt_distinct key.alignments (λ u. u.alignments.drawn) alignment views id v at kept.alignments;
      raises = let has = total_has (λ u. u.raises) views id v at in let all = kept.raised in let flag = kept.flag in omega arith;
      whole = kept_complete key stop sample alignment views id v kept at passes;
    }
