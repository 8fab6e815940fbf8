use Rattle.c_check.proofs.Laws.{same_condition}
use Rattle.c_check.proofs.law.one_condition.Goals as goal

pub returns : goal.returns
returns c = same_condition
