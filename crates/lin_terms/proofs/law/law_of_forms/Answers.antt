use Rattle.lin_terms.proofs.Fitting.{fitting_fits, fitting_is_wanted, variable_fits}
use Rattle.lin_terms.proofs.Composing.{value_at-composed}
use Rattle.lin_terms.proofs.law.law_of_forms.Goals as goal

pub returns-clause-fit : goal.returns-clause-fit
returns-clause-fit c = fitting_fits

pub returns-clause-wanted : goal.returns-clause-wanted
returns-clause-wanted c = fitting_is_wanted

pub returns-clause-variables : goal.returns-clause-variables
returns-clause-variables c = variable_fits

pub returns-clause-composed : goal.returns-clause-composed
returns-clause-composed c = value_at-composed
