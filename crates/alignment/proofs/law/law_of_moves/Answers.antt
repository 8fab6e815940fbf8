use Rattle.alignment.proofs.Laws.{same_moves, moves_are_determined, some_side_moves, some_at_marks, stops_elsewhere, goes_on_at_its_mark, entries_are_not_met}
use Rattle.alignment.proofs.law.law_of_moves.Goals as goal

pub returns : goal.returns
returns c = record {
  same = same_moves;
  once = moves_are_determined;
  some = some_side_moves;
  some_at_marks = some_at_marks;
  stops = stops_elsewhere;
  goes_on = goes_on_at_its_mark;
  entries = entries_are_not_met;
}
