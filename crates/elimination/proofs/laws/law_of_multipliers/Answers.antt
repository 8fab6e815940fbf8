use Rattle.elimination.proofs.Making.{rows_made}
use Rattle.elimination.proofs.laws.law_of_multipliers.Goals as goal

pub returns : goal.returns
returns c = rows_made
