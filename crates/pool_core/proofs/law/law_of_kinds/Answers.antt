use Rattle.pool_core.proofs.Laws.{are_of_one_kind, differences_are_found, couplings_are_found}
use Rattle.pool_core.proofs.law.law_of_kinds.Goals as goal

pub returns : goal.returns
returns c = record {
  one = are_of_one_kind;
  differences = differences_are_found;
  couplings = couplings_are_found;
}
