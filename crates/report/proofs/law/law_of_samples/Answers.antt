use Rattle.report.proofs.Laws.{tells_cause, tells_each_once}
use Rattle.report.proofs.law.law_of_samples.Goals as goal

pub returns : goal.returns
returns c = record { cause = tells_cause; once = tells_each_once }
