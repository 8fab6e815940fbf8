use Rattle.horn_clauses.proofs.Laws.{law_of_nodes}
use Rattle.horn_clauses.proofs.law.law_of_nodes.Goals as goal

pub returns : goal.returns
returns c = law_of_nodes
