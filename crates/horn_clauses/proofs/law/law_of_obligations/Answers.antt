use Rattle.horn_clauses.proofs.Laws.{failures_meet_obligations, refuted_atoms_hold, refuted_families_are_kept}
use Rattle.horn_clauses.proofs.law.law_of_obligations.Goals as goal

pub returns : goal.returns
returns c = record { refuted = refuted_atoms_hold; kept = refuted_families_are_kept; met = failures_meet_obligations }
