use Rattle.miners.proofs.Families.{gathered_is_mined}
use Rattle.miners.proofs.mining.law_of_gathering.Goals as goal

pub returns : goal.returns
returns c = gathered_is_mined
