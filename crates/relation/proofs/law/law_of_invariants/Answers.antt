use Rattle.relation.proofs.Laws.{law_of_invariants}
use Rattle.relation.proofs.law.law_of_invariants.Goals as goal

pub returns : goal.returns
returns c = law_of_invariants
