use Rattle.horn_clauses.proofs.Laws.{parameters_are_equal, results_are_equal}
use Rattle.horn_clauses.proofs.law.law_of_equalities.Goals as goal

pub returns : goal.returns
returns c = record { parameters = parameters_are_equal; results = results_are_equal }
