use Rattle.c_source.proofs.Laws.{one_condition, one_condition_refusal, read_condition_is_not_refused, condition_refusal_is_no_want}
use Rattle.c_source.proofs.law.law_of_conditions.Goals as goal

pub returns-clause-one : goal.returns-clause-one
returns-clause-one c = one_condition

pub returns-clause-one_refusal : goal.returns-clause-one_refusal
returns-clause-one_refusal c = one_condition_refusal

pub returns-clause-not_both : goal.returns-clause-not_both
returns-clause-not_both c = read_condition_is_not_refused

pub returns-clause-no_want : goal.returns-clause-no_want
returns-clause-no_want c = condition_refusal_is_no_want
