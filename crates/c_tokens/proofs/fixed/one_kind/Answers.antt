use Rattle.c_tokens.proofs.Laws.{kinds-one}
use Rattle.c_tokens.proofs.fixed.one_kind.Goals as goal

pub returns : goal.returns
returns c = kinds-one
