use Rattle.std.proofs.Common.{sym, ◌∙◌}
use Rattle.miners.proofs.Placed.{bound_goes_on_second}
use Rattle.miners.proofs.shape.Shape.go_on_minus.Goals as goal

pub returns-then-is_zero : goal.returns-then-is_zero
returns-then-is_zero c = bound_goes_on_second c.args.self.now c.args.term c.requires (sym c.is_zero.ensures ∙ c.if-is_zero.true)
