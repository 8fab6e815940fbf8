use Rattle.c_ast.proofs.Laws.{entry_is_not_met, exit_is_last, fitting_values_are_as_many, meets_fitting_values, next_place_exists, next_place_is_determined, work_is_determined}
use Rattle.c_ast.proofs.law.law_of_segments.Goals as goal

pub returns : goal.returns
returns c = record {
  work = work_is_determined;
  determined = next_place_is_determined;
  exists = next_place_exists;
  fits = meets_fitting_values;
  as_many = fitting_values_are_as_many;
  entry = entry_is_not_met;
  exit = exit_is_last;
}
