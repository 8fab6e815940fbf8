use Rattle.farkas_check.proofs.Soundness.{no_point, no_integer_point}
use Rattle.farkas_check.proofs.law.refutable_rows_have_no_point.Goals as goal

pub returns-clause-fractions : goal.returns-clause-fractions
returns-clause-fractions c rows found = no_point rows found.multipliers found.refutes

pub returns-clause-whole_numbers : goal.returns-clause-whole_numbers
returns-clause-whole_numbers c rows found = no_integer_point rows found.multipliers found.refutes
