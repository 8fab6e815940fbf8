use Rattle.elimination.proofs.Answering.{exactly_refutable}
use Rattle.elimination.proofs.laws.law_of_refutability.Goals as goal

pub returns : goal.returns
returns c = exactly_refutable
