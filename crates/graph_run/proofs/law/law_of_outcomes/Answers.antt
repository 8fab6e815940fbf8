use Rattle.graph_run.proofs.Laws.{one_outcome, judged_fits}
use Rattle.graph_run.proofs.law.law_of_outcomes.Goals as goal

pub returns : goal.returns
returns c = record { once = one_outcome; fits = judged_fits }
