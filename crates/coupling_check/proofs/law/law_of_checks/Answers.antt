use Rattle.coupling_check.proofs.Laws.{checked_is_refutable, failing_is_unproved}
use Rattle.coupling_check.proofs.law.law_of_checks.Goals as goal

pub returns : goal.returns
returns c = record { refutable = checked_is_refutable; unproved = failing_is_unproved }
