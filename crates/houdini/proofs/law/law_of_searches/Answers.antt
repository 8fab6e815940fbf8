use Rattle.houdini.proofs.Complete.{complete, greatest_is_one}
use Rattle.houdini.proofs.law.law_of_searches.Goals as goal

pub returns-clause-complete : goal.returns-clause-complete
returns-clause-complete c = complete

pub returns-clause-one : goal.returns-clause-one
returns-clause-one c = greatest_is_one
