use Rattle.pool_core.proofs.Laws.{conclusions_are_justified}
use Rattle.pool_core.proofs.law.law_of_conclusions.Goals as goal

pub returns : goal.returns
returns c = conclusions_are_justified
