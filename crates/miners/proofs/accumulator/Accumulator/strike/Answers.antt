use Rattle.std.proofs.Common.{◌≡◌, ◌++◌, filter, refl, rules}
use Rattle.std.proofs.lemmas.Fn.{filter_same}
use Rattle.miners.specs.Kept.{stays}
use Rattle.miners.proofs.Leaving.{same_at_once, held_again, struck_held}
use Rattle.miners.proofs.accumulator.Accumulator.strike.Goals as goal

pub returns-then-same-clause-left : goal.returns-then-same-clause-left
returns-then-same-clause-left c = λ constants.
    rw (← c.self.view_is) (same_at_once constants c.self.inside.node c.self.inside.width (c.args.first.now ++ c.args.second.now)
    c.self.inside.last c.of-point.result c.self.inside.fixed.items c.self.inside.least.items (c.if-same.ensures.0 refl) c.of-point.ensures
    c.self.invariant.fixed c.self.invariant.least)

pub invariant_of-self : goal.invariant_of-self
invariant_of-self c =
    let kept : c.retain.new.self.items ≡ filter (stays c.of-point.result) c.self.inside.fixed.items =
    filter_same _ (stays c.of-point.result) _ (λ x b f' k. search rules) _ _ c.retain.ensures.filtered in
    held_again c.self.inside.width c.of-point.result c.self.inside.fixed.items c.retain.new.self.items c.self.inside.least.items
    c.lower_kept.new.bounds.items c.self.invariant.narrow kept c.lower_kept.ensures

pub returns-clause-left : goal.returns-clause-left
returns-clause-left c = λ constants.
    let kept : c.retain.new.self.items ≡ filter (stays c.of-point.result) c.self.inside.fixed.items =
    filter_same _ (stays c.of-point.result) _ (λ x b f' k. search rules) _ _ c.retain.ensures.filtered in
    rw (← c.self.view_is) (struck_held constants c.self.inside.node c.self.inside.width (c.args.first.now ++ c.args.second.now) c.of-point.result
    c.self.inside.fixed.items c.retain.new.self.items c.self.inside.least.items c.lower_kept.new.bounds.items c.of-point.ensures kept
    c.lower_kept.ensures)
