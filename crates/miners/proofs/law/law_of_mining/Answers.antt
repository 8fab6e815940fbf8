use Rattle.miners.proofs.Laws.{mines_candidates, one_list, mining_goes_on, had_points_strike_nothing, before_asymmetric}
use Rattle.miners.proofs.law.law_of_mining.Goals as goal

pub returns : goal.returns
returns c = record {
  exact = mines_candidates;
  alone = one_list;
  goes_on = mining_goes_on;
  had = had_points_strike_nothing;
  one_way = before_asymmetric;
}
