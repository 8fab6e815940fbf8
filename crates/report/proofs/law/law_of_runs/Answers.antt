use Rattle.report.proofs.Laws.{has_runs, has_no_other_runs}
use Rattle.report.proofs.law.law_of_runs.Goals as goal

pub returns : goal.returns
returns c = record { runs = has_runs; no_other = has_no_other_runs }
