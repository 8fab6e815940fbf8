use Rattle.c_ast.proofs.Laws.{first_variables_are_below, listed_are_below, over_can_evaluate, parameters_are_below, set_can_evaluate, set_stays_below, spread_has_length, step_keeps_length, values_are_listed}
use Rattle.c_ast.proofs.law.law_of_environments.Goals as goal

pub returns : goal.returns
returns c = record {
  length = spread_has_length;
  kept = step_keeps_length;
  listed = values_are_listed;
  below = listed_are_below;
  first = first_variables_are_below;
  parameters = parameters_are_below;
  set = set_stays_below;
  over = over_can_evaluate;
  taken = set_can_evaluate;
}
