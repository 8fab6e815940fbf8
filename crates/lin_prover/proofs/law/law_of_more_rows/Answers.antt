use Rattle.lin_prover.proofs.More.{refuted_among_more, refuted_behind_zeros}
use Rattle.lin_prover.proofs.law.law_of_more_rows.Goals as goal

pub returns-clause-more : goal.returns-clause-more
returns-clause-more c = refuted_among_more

pub returns-clause-behind_zeros : goal.returns-clause-behind_zeros
returns-clause-behind_zeros c = refuted_behind_zeros
