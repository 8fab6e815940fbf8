use Rattle.sym_paths.proofs.Searching.{from_node, next_step}
use Rattle.sym_paths.proofs.Prefix.{advanced_behind}
use Rattle.sym_paths.proofs.Falling.{search_ends}
use Rattle.sym_paths.proofs.law.law_of_steps.Goals as goal

pub returns-clause-entered : goal.returns-clause-entered
returns-clause-entered c = from_node

pub returns-clause-step : goal.returns-clause-step
returns-clause-step c = next_step

pub returns-clause-rows : goal.returns-clause-rows
returns-clause-rows c = advanced_behind

pub returns-clause-ends : goal.returns-clause-ends
returns-clause-ends c = search_ends
