use Rattle.lin_terms.proofs.FormLemmas.{value_at-sum_of, value_at-multiple_of, value_at-constant, value_at-constant_form, value_at-variable_form}
use Rattle.lin_terms.proofs.law.law_of_values.Goals as goal

pub returns-clause-sum : goal.returns-clause-sum
returns-clause-sum c = value_at-sum_of

pub returns-clause-multiple : goal.returns-clause-multiple
returns-clause-multiple c = value_at-multiple_of

pub returns-clause-constant : goal.returns-clause-constant
returns-clause-constant c = value_at-constant

pub returns-clause-constant_form : goal.returns-clause-constant_form
returns-clause-constant_form c = value_at-constant_form

pub returns-clause-variable_form : goal.returns-clause-variable_form
returns-clause-variable_form c = value_at-variable_form
