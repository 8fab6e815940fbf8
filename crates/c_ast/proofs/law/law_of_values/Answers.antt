use Rattle.c_ast.proofs.Laws.{map_of_spread, map_of_values}
use Rattle.c_ast.proofs.law.law_of_values.Goals as goal

pub returns : goal.returns
returns g c = record { spread = map_of_spread _ _; listed = map_of_values _ _ }
