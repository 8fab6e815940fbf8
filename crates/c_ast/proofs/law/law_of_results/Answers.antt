use Rattle.c_ast.proofs.Laws.{returns_once}
use Rattle.c_ast.proofs.law.law_of_results.Goals as goal

pub returns : goal.returns
returns c = returns_once
