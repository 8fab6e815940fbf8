-- The laws of farkas_check: all that proofs of other crates may cite of its proofs.
pub use Rattle.farkas_check.proofs.Soundness.{no_point, no_integer_point}
pub use Rattle.farkas_check.proofs.Idle.{added, dropped, more_rows, alike_refuted}
