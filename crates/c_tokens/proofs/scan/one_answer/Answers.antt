use Rattle.c_tokens.proofs.Laws.{answers-one}
use Rattle.c_tokens.proofs.scan.one_answer.Goals as goal

pub returns : goal.returns
returns c = answers-one
