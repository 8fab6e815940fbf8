-- The public law (src/law.rt): what the proofs of other crates may cite.
pub use Rattle.coupling_check.proofs.Proving.{checked_is_refutable, failing_is_unproved}
