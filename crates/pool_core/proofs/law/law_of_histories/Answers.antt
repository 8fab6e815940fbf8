use Rattle.pool_core.proofs.Laws.{fronts_are_legal, items_follow, histories_go_on, nothing_follows_verdicts}
use Rattle.pool_core.proofs.law.law_of_histories.Goals as goal

pub returns : goal.returns
returns c = record {
  fronts = fronts_are_legal;
  follow = items_follow;
  go_on = histories_go_on;
  last = nothing_follows_verdicts;
}
