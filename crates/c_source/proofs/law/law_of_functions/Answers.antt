use Rattle.c_source.proofs.Laws.{one_reading, one_refusal, read_is_not_refused, refusal_is_no_want}
use Rattle.c_source.proofs.law.law_of_functions.Goals as goal

pub returns-clause-one : goal.returns-clause-one
returns-clause-one c = one_reading

pub returns-clause-one_refusal : goal.returns-clause-one_refusal
returns-clause-one_refusal c = one_refusal

pub returns-clause-not_both : goal.returns-clause-not_both
returns-clause-not_both c = read_is_not_refused

pub returns-clause-no_want : goal.returns-clause-no_want
returns-clause-no_want c = refusal_is_no_want
