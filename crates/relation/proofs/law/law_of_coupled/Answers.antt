use Rattle.relation.proofs.Laws.{coupled_never_differ}
use Rattle.relation.proofs.law.law_of_coupled.Goals as goal

pub returns : goal.returns
returns c = coupled_never_differ
