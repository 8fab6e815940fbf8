use Rattle.c_ast.proofs.Laws.{marks_are_ahead, marks_are_ahead_at_start, marks_stay_ahead}
use Rattle.c_ast.proofs.law.law_of_marks.Goals as goal

pub returns : goal.returns
returns c = record { from = marks_are_ahead; start = marks_are_ahead_at_start; step = marks_stay_ahead }
