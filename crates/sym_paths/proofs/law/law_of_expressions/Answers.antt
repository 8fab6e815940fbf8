use Rattle.sym_paths.proofs.Expressions.{law_of_expressions}
use Rattle.sym_paths.proofs.law.law_of_expressions.Goals as goal

pub returns : goal.returns
returns c = law_of_expressions
