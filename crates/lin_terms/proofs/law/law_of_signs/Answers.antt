use Rattle.lin_terms.proofs.Signs.{nonneg_add, nonneg_mul, zero_factor}
use Rattle.lin_terms.proofs.law.law_of_signs.Goals as goal

pub returns-clause-sums : goal.returns-clause-sums
returns-clause-sums c = nonneg_add

pub returns-clause-products : goal.returns-clause-products
returns-clause-products c = nonneg_mul

pub returns-clause-factors : goal.returns-clause-factors
returns-clause-factors c = zero_factor
