use Rattle.walks.proofs.Laws.{walks_follow_moves, walks_end_at_exits, walks_are_short, positions_fit, values_fit, traces_fit, positions_are_narrow, values_stay_narrow}
use Rattle.walks.proofs.law.law_of_walks.Goals as goal

pub returns : goal.returns
returns c = record {
  moves = walks_follow_moves;
  exits = walks_end_at_exits;
  short = walks_are_short;
  fit = values_fit;
  fit_at = positions_fit;
  traces = traces_fit;
  narrow = values_stay_narrow;
  narrow_at = positions_are_narrow;
}
