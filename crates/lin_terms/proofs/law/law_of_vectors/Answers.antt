use Rattle.lin_terms.proofs.Dots.{get_or-plus, get_or-scaled, get_or-zeros, zero_entries, length-plus, length-scaled}
use Rattle.lin_terms.proofs.law.law_of_vectors.Goals as goal

pub returns-clause-entry_of_sum : goal.returns-clause-entry_of_sum
returns-clause-entry_of_sum c = get_or-plus

pub returns-clause-entry_of_multiple : goal.returns-clause-entry_of_multiple
returns-clause-entry_of_multiple c = get_or-scaled

pub returns-clause-entry_of_replicated : goal.returns-clause-entry_of_replicated
returns-clause-entry_of_replicated c = get_or-zeros

pub returns-clause-entry_of_zeros : goal.returns-clause-entry_of_zeros
returns-clause-entry_of_zeros c = zero_entries

pub returns-clause-length_of_sum : goal.returns-clause-length_of_sum
returns-clause-length_of_sum c = length-plus

pub returns-clause-length_of_multiple : goal.returns-clause-length_of_multiple
returns-clause-length_of_multiple c = length-scaled
