use Rattle.sym_paths.proofs.Cases.{law_of_cases}
use Rattle.sym_paths.proofs.law.law_of_cases.Goals as goal

pub returns : goal.returns
returns c = law_of_cases
