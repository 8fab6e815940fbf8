-- The public laws (src/law.rt), each clause with its proof: what the proofs of other crates may cite. `invariants_force` says
-- the same of anything that is said at nodes, which no clause can state.
pub use Rattle.relation.proofs.Following.{invariants_force, law_of_invariants}
pub use Rattle.relation.proofs.Couplings.{couplings_force, couples_under_each}
pub use Rattle.relation.proofs.Families.{soundness_of_products, refutable_is_refuted, linear_families_couple}
pub use Rattle.relation.proofs.Keeping.{coupled_never_differ}
