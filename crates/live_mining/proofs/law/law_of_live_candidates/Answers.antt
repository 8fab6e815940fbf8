use Rattle.live_mining.proofs.Parts.{parts_make_the_whole, live_candidates_are_mined}
use Rattle.live_mining.proofs.law.law_of_live_candidates.Goals as goal

pub returns-clause-whole : goal.returns-clause-whole
returns-clause-whole c = parts_make_the_whole

pub returns-clause-mined : goal.returns-clause-mined
returns-clause-mined c = live_candidates_are_mined
