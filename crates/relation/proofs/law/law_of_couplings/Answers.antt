use Rattle.relation.proofs.Laws.{couplings_force, couples_under_each}
use Rattle.relation.proofs.law.law_of_couplings.Goals as goal

pub returns : goal.returns
returns c = record { couplings = couplings_force; each = couples_under_each }
