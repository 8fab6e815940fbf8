use Rattle.lin_terms.proofs.Rows.{sign_row-holds}
use Rattle.lin_terms.proofs.TightLemmas.{tight_keeps, tight_columns}
use Rattle.lin_terms.proofs.law.law_of_tight_rows.Goals as goal

pub returns-clause-signs : goal.returns-clause-signs
returns-clause-signs c = sign_row-holds

pub returns-clause-solutions : goal.returns-clause-solutions
returns-clause-solutions c = tight_keeps

pub returns-clause-columns : goal.returns-clause-columns
returns-clause-columns c = tight_columns
