-- The public law (src/law.rt), each clause with its proof: what the proofs of other crates may cite.
pub use Rattle.live_mining.proofs.Parts.{parts_make_the_whole, live_candidates_are_mined}
