-- The laws of verdict_board: all that proofs of other crates may cite of its proofs.
pub use Rattle.verdict_board.proofs.Numbers.{length_of_numbers, numbers_stand, numbers_are_below, numbers_stand_once}
