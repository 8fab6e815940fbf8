-- The public laws (src/law.rt), each with its proof: what the proofs of other crates may cite.
use Rattle.graph_run.specs.Laws.{GraphIsJudgedOnce, JudgedFits}
use Rattle.graph_run.proofs.Judging as judging
use Rattle.graph_run.proofs.Tracing as tracing

pub one_outcome : GraphIsJudgedOnce
one_outcome = judging.one_outcome

pub judged_fits : JudgedFits
judged_fits = tracing.judged_fits
