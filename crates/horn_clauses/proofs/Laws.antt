-- The public laws (src/law.rt), each clause with its proof: what the proofs of other crates may cite.
pub use Rattle.horn_clauses.proofs.Nodes.{law_of_nodes}
pub use Rattle.horn_clauses.proofs.Values.{parameters_are_equal, results_are_equal}
pub use Rattle.horn_clauses.proofs.Refuted.{failures_meet_obligations, refuted_atoms_hold, refuted_families_are_kept}
