use Rattle.std.proofs.Common.{sym, ◌∙◌}
use Rattle.miners.proofs.Placed.{equality_goes_on, zero_goes_on, free_is_zero}
use Rattle.miners.proofs.shape.Shape.go_on_equality.Goals as goal

pub returns-then-can_follow : goal.returns-then-can_follow
returns-then-can_follow c =
    equality_goes_on c.args.self.now c.placed.result c.args.term (sym c.is_zero.ensures ∙ c.if-is_zero.false)
    (rw (← c.ones.ensures.ones, ← c.twos.ensures.twos) (sym c.can_follow.ensures ∙ c.if-can_follow.true)) c.placed.ensures

pub returns-then-is_zero : goal.returns-then-is_zero
returns-then-is_zero c =
    (zero_goes_on c.args.self.now c.args.term (free_is_zero c.args.term.coef (sym c.is_zero.ensures ∙ c.if-is_zero.true))).0
