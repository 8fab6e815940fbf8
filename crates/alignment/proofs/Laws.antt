-- The public law (src/law.rt), each clause with its proof: what the proofs of other crates may cite. The last two say the same
-- of any segments, which no clause can state.
pub use Rattle.alignment.proofs.Rows.{some_at_marks}
pub use Rattle.alignment.proofs.Moving.{some_side_moves, same_moves, moves_are_determined, stops_elsewhere, goes_on_at_its_mark}
pub use Rattle.alignment.proofs.Moving.{entries_are_not_met, moves_agree, moves_once}
