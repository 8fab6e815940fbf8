-- The public laws (src/law.rt), each with its proof: what the proofs of other crates may cite. Those of walks are of any
-- property of what a walk arrives at, which no clause can state.
use Rattle.sym_paths.specs.Laws.{ValuesStay, ValuesAreThose, RowsStay, RowsHoldThere, VariablesHaveValues}
use Rattle.sym_paths.proofs.Points as points
pub use Rattle.sym_paths.proofs.Expressions.{law_of_expressions}
pub use Rattle.sym_paths.proofs.Cases.{law_of_cases}
pub use Rattle.sym_paths.proofs.Conditions.{law_of_conditions}
pub use Rattle.sym_paths.proofs.Walks.{each_append, some_left, some_right, each_changed, some_changed, onward_each, onward_some}
pub use Rattle.sym_paths.proofs.Walks.{extends_itself, extends_on, changed, gives_splits, stops_splits, onward_splits}
pub use Rattle.sym_paths.proofs.Walks.{each_collected, some_collected, both_of, some_of_changed, picked}
pub use Rattle.sym_paths.proofs.Rows.{all_joined_joins}
pub use Rattle.sym_paths.proofs.Fitting.{cases_fit, conditions_fit}

pub values_stay : ValuesStay
values_stay = points.have_longer

pub values_are_those : ValuesAreThose
values_are_those = points.values_are

pub rows_stay : RowsStay
rows_stay = points.hold_longer

pub rows_hold_there : RowsHoldThere
rows_hold_there = points.hold_here

pub variables_have_values : VariablesHaveValues
variables_have_values = points.variables_have
