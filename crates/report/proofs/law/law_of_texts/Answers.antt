use Rattle.report.proofs.VerdictTexts.{texts_determine}
use Rattle.report.proofs.law.law_of_texts.Goals as goal

pub returns : goal.returns
returns c = texts_determine
