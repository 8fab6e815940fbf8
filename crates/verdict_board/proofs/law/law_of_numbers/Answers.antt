use Rattle.verdict_board.proofs.Numbers.{length_of_numbers, numbers_stand, numbers_are_below, numbers_stand_once}
use Rattle.verdict_board.proofs.law.law_of_numbers.Goals as goal

pub returns : goal.returns
returns c = record { length = length_of_numbers; each = numbers_stand; below = numbers_are_below; once = numbers_stand_once }
