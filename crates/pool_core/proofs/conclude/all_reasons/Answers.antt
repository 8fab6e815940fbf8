use Rattle.std.proofs.Common.{rules, ◌≡◌, ◌+◌, ◌<◌, ℕ, List, [], ◌∷◌, ◌++◌, true, arith, sym, subst, length}
use Rattle.std.specs.List.{list_any, slice_get}
use Rattle.std.specs.Option.{IsSomeAnd}
use Rattle.std.proofs.lemmas.List.{length_push}
use Rattle.pool_core.specs.declared.verdict.Why.{Why}
use Rattle.pool_core.specs.History.{pairs_of, has_tried, HasReason}
use Rattle.pool_core.proofs.Looking.{each_pushed}
use Rattle.pool_core.proofs.conclude.all_reasons.Goals as goal

pub reason-requires-clause-there : goal.reason-requires-clause-there
reason-requires-clause-there c =
    let items = c.args.log.now.items in
    let at = c.requires.there (c.loop-k.k + 1) (record { least = omega arith; most = omega arith }) (omega arith) in
    subst (λ (n : ℕ). list_any (has_tried n c.alignment_after.result) items ≡ true) (sym c.requires.all)
    (subst (λ (n : ℕ). list_any (has_tried (length (pairs_of items)) n) items ≡ true) (sym c.alignment_after.ensures) at)

pub loop-k-preserved : goal.loop-k-preserved
loop-k-preserved c =
    let items = c.args.log.now.items in
    let made = c.loop-k.made in
    let why = c.in_ok-reason.field-0 in
    let pushed : c.push.new.self ≡ made ++ why ∷ [] = search rules in
    let last : HasReason items c.args.pairs (c.loop-k.k + 1) why =
    subst (λ (n : ℕ). HasReason items c.args.pairs n why) c.alignment_after.ensures c.in_ok-reason.ensures in
    let long : length made ≡ c.loop-k.k = c.loop-k.invariant.0 in
    let at : HasReason items c.args.pairs (length made + 1) why =
    subst (λ (n : ℕ). HasReason items c.args.pairs (n + 1) why) (sym long) last in
    let each = each_pushed (λ k. HasReason items c.args.pairs (k + 1)) made why
    (λ k below. c.loop-k.invariant.1 k (omega arith)) at in
    subst (λ (xs : List Why). (length xs ≡ c.loop-k.k + 1)
    × ((k : ℕ) → k < c.loop-k.k + 1 → IsSomeAnd (slice_get xs k) (HasReason items c.args.pairs (k + 1))))
    (sym pushed)
    (omega (arith, length_push made why, long), λ k below. each k (omega (arith, long)))
