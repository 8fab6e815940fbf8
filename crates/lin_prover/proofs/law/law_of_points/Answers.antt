use Rattle.lin_prover.proofs.Points.{points_exclude}
use Rattle.lin_prover.proofs.law.law_of_points.Goals as goal

pub returns : goal.returns
returns c = points_exclude
