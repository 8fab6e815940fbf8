use Rattle.c_reader.proofs.Laws.{expression-one}
use Rattle.c_reader.proofs.condition.one_expression.Goals as goal

pub returns : goal.returns
returns c = expression-one
