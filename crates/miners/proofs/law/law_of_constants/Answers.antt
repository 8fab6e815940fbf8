use Rattle.miners.proofs.Laws.{law_of_bound_constants, law_of_ten_least}
use Rattle.miners.proofs.law.law_of_constants.Goals as goal

pub returns : goal.returns
returns c = record { bounds = law_of_bound_constants; least = law_of_ten_least }
