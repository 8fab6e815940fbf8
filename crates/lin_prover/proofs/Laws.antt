-- The laws of lin_prover: all that proofs of other crates may cite of its proofs.
pub use Rattle.lin_prover.proofs.Points.{points_exclude}
pub use Rattle.lin_prover.proofs.More.{refuted_among_more, refuted_behind_zeros}
