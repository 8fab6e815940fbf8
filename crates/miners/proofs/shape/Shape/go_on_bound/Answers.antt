use Rattle.miners.proofs.Placed.{zero_goes_on}
use Rattle.miners.proofs.shape.Shape.go_on_bound.Goals as goal

pub returns-in-Zero : goal.returns-in-Zero
returns-in-Zero c = (zero_goes_on c.args.self.now c.args.term c.in-Zero.is).1
