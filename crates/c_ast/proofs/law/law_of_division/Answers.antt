use Rattle.c_ast.proofs.Division.{law_of_division}
use Rattle.c_ast.proofs.law.law_of_division.Goals as goal

pub returns-clause-division : goal.returns-clause-division
returns-clause-division c = law_of_division
