use Rattle.c_ast.proofs.Laws.{steps_are_alike}
use Rattle.c_ast.proofs.law.law_of_scopes.Goals as goal

pub returns : goal.returns
returns c = steps_are_alike
