-- The public laws (src/law.rt), each clause with its proof: what the proofs of other crates may cite.
pub use Rattle.pool_core.proofs.Histories.{fronts_are_legal, items_follow, histories_go_on, nothing_follows_verdicts}
pub use Rattle.pool_core.proofs.OneKind.{are_of_one_kind, differences_are_found, couplings_are_found}
pub use Rattle.pool_core.proofs.Concluding.{conclusions_are_justified}
