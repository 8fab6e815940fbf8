use Rattle.elimination.proofs.Deciding.{has_point}
use Rattle.elimination.proofs.laws.law_of_points.Goals as goal

pub returns : goal.returns
returns c = has_point
