use Rattle.sym_paths.proofs.Laws as laws
use Rattle.sym_paths.proofs.law.law_of_points.Goals as goal

pub returns : goal.returns
returns c = record {
  values = laws.values_stay;
  those = laws.values_are_those;
  rows = laws.rows_stay;
  there = laws.rows_hold_there;
  variables = laws.variables_have_values;
}
