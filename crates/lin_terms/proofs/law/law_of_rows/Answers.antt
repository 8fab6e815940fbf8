use Rattle.lin_terms.proofs.Rows.{whole_is_fraction}
use Rattle.lin_terms.proofs.TightLemmas.{no_wider_below}
use Rattle.lin_terms.proofs.law.law_of_rows.Goals as goal

pub returns-clause-whole_numbers : goal.returns-clause-whole_numbers
returns-clause-whole_numbers c = whole_is_fraction

pub returns-clause-bounds : goal.returns-clause-bounds
returns-clause-bounds c = no_wider_below
