use Rattle.elimination.proofs.Answering.{never_memory}
use Rattle.elimination.proofs.laws.law_of_limits.Goals as goal

pub returns : goal.returns
returns c = never_memory
