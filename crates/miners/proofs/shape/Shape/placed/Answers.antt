use Rattle.std.proofs.Common.{sym, ◌∙◌}
use Rattle.miners.proofs.Placed.{placed_first, placed_second, placed_third, placed_fourth}
use Rattle.miners.proofs.shape.Shape.placed.Goals as goal

pub returns-then-is_zero : goal.returns-then-is_zero
returns-then-is_zero c = placed_first c.args.self.now c.args.term (sym c.is_zero.ensures ∙ c.if-is_zero.true)

pub returns-then-is_zero-2 : goal.returns-then-is_zero-2
returns-then-is_zero-2 c = placed_second c.args.self.now c.args.term (sym c.is_zero-2.ensures ∙ c.if-is_zero-2.true)

pub returns-then-is_zero-3 : goal.returns-then-is_zero-3
returns-then-is_zero-3 c = placed_third c.args.self.now c.args.term (sym c.is_zero-3.ensures ∙ c.if-is_zero-3.true)

pub returns : goal.returns
returns c =
    placed_fourth c.args.self.now c.args.term c.requires (sym c.is_zero.ensures ∙ c.if-is_zero.false)
    (sym c.is_zero-2.ensures ∙ c.if-is_zero-2.false) (sym c.is_zero-3.ensures ∙ c.if-is_zero-3.false)
