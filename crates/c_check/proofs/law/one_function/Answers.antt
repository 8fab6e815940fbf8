use Rattle.c_check.proofs.Laws.{same_function}
use Rattle.c_check.proofs.law.one_function.Goals as goal

pub returns : goal.returns
returns c = same_function
