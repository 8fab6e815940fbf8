use Rattle.farkas_check.proofs.Idle.{added, dropped, more_rows, alike_refuted}
use Rattle.farkas_check.proofs.law.law_of_idle_rows.Goals as goal

pub returns-clause-idle : goal.returns-clause-idle
returns-clause-idle c before behind row multipliers others long =
    (added before behind row multipliers others long, dropped before behind row multipliers others long)

pub returns-clause-more : goal.returns-clause-more
returns-clause-more c = more_rows

pub returns-clause-alike : goal.returns-clause-alike
returns-clause-alike c = alike_refuted
