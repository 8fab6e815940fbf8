-- The public laws (src/law.rt, src/fitting.rt), each with its proof: what the proofs of other crates may cite.
use Rattle.report.specs.Laws.{HasRuns, HasNoOtherRuns, TellsCause, TellsEachOnce}
use Rattle.report.specs.Fitting.{JustifiedVerdictsFit, LegalHistoriesAreKept}
use Rattle.report.proofs.Runs as run
use Rattle.report.proofs.Told as told
use Rattle.report.proofs.VerdictsFit as fit
use Rattle.report.proofs.ItemsKept as kept
use Rattle.report.specs.Determined.{TextsDetermineVerdicts}
use Rattle.report.proofs.VerdictTexts as whole

pub has_runs : HasRuns
has_runs = run.are_runs

pub has_no_other_runs : HasNoOtherRuns
has_no_other_runs = run.no_other_runs

pub tells_cause : TellsCause
tells_cause = told.tells_cause

pub tells_each_once : TellsEachOnce
tells_each_once = told.tells_each_once

pub justified_verdicts_fit : JustifiedVerdictsFit
justified_verdicts_fit = fit.verdict_fits

pub legal_histories_are_kept : LegalHistoriesAreKept
legal_histories_are_kept = kept.items_kept

pub texts_determine_verdicts : TextsDetermineVerdicts
texts_determine_verdicts = whole.texts_determine
