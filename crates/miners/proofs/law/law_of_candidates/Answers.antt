use Rattle.miners.proofs.Laws.{candidates_are_mined, holding_atoms_are_candidates, unmet_nodes_have_none, candidates_are_in_order, wide_nodes_say_nothing, more_pairs_add_none, candidates_are_determined, points_have_one_length, candidates_fit, entries_fit}
use Rattle.miners.proofs.law.law_of_candidates.Goals as goal

pub returns : goal.returns
returns c = record {
  mined = candidates_are_mined;
  holding = holding_atoms_are_candidates;
  unmet = unmet_nodes_have_none;
  order = candidates_are_in_order;
  wide = wide_nodes_say_nothing;
  more_pairs = more_pairs_add_none;
  determined = candidates_are_determined;
  one_length = points_have_one_length;
  fit = candidates_fit;
  entries_fit = entries_fit;
}
