use Rattle.std.proofs.Common.{◌∙◌, ◌++◌, sym, arith}
use Rattle.miners.proofs.Sums.{at_first, at_second, within_past}
use Rattle.miners.proofs.point.value_at.Goals as goal

pub returns-then-place-width-clause-value : goal.returns-then-place-width-clause-value
returns-then-place-width-clause-value c =
    sym (within_past c.args.width c.args.place (c.args.first.now ++ c.args.second.now) (omega (arith, c.if-place-width.true)))

pub returns-then-place-first-clause-value : goal.returns-then-place-first-clause-value
returns-then-place-first-clause-value c =
    c.value_in.ensures.value ∙ at_first c.args.width c.args.place c.args.first.now c.args.second.now
    (omega (arith, c.if-place-width.false)) (omega (arith, c.if-place-first.true))

pub returns-clause-value : goal.returns-clause-value
returns-clause-value c =
    c.value_in-2.ensures.value ∙ at_second c.args.width c.args.place c.args.first.now c.args.second.now
    (omega (arith, c.if-place-width.false)) (omega (arith, c.if-place-first.false))
