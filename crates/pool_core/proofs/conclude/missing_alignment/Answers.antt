use Rattle.std.proofs.Common.{◌≡◌, ◌+◌, ℕ, true, arith, subst}
use Rattle.std.specs.List.{list_any}
use Rattle.pool_core.specs.History.{has_tried}
use Rattle.pool_core.proofs.Looking.{more_are_tried}
use Rattle.pool_core.proofs.conclude.missing_alignment.Goals as goal

pub loop-k-preserved : goal.loop-k-preserved
loop-k-preserved c =
    let items = c.args.log.now.items in
    let at : list_any (has_tried c.args.pairs c.alignment_after.result) items ≡ true = cc in
    let there = subst (λ (n : ℕ). list_any (has_tried c.args.pairs n) items ≡ true) c.alignment_after.ensures at in
    more_are_tried items c.args.pairs (c.loop-k.k + 1) c.requires.all c.loop-k.invariant there

pub returns : goal.returns
returns c = λ alignment named below. c.loop-k.invariant alignment named (omega arith)
