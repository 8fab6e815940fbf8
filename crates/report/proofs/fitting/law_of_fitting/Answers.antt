use Rattle.report.proofs.Laws.{justified_verdicts_fit, legal_histories_are_kept}
use Rattle.report.proofs.fitting.law_of_fitting.Goals as goal

pub returns : goal.returns
returns c = record { verdicts = justified_verdicts_fit; items = legal_histories_are_kept }
