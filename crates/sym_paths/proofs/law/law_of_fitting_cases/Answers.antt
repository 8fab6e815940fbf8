use Rattle.sym_paths.proofs.Fitting.{cases_fit, conditions_fit}
use Rattle.sym_paths.proofs.law.law_of_fitting_cases.Goals as goal

pub returns : goal.returns
returns c = record { cases = cases_fit; conditions = conditions_fit }
