use Rattle.elimination.proofs.Answering.{refuted_refutes}
use Rattle.elimination.proofs.laws.law_of_refutations.Goals as goal

pub returns : goal.returns
returns c = refuted_refutes
