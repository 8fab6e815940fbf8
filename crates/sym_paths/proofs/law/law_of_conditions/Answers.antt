use Rattle.sym_paths.proofs.Conditions.{law_of_conditions}
use Rattle.sym_paths.proofs.law.law_of_conditions.Goals as goal

pub returns : goal.returns
returns c = law_of_conditions
