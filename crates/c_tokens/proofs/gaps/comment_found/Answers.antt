use Rattle.c_tokens.specs.Gaps.{closed, open_ended}
use Rattle.c_tokens.proofs.gaps.comment_found.Goals as goal

pub returns-in-Some-clause-found : goal.returns-in-Some-clause-found
returns-in-Some-clause-found c = closed _ c.in-Some.ensures.0 c.in-Some.ensures.2

pub returns-in-None-clause-found : goal.returns-in-None-clause-found
returns-in-None-clause-found c = open_ended c.in-None.ensures
