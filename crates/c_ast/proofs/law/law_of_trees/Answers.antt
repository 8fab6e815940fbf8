use Rattle.c_ast.proofs.Laws.{fronts, one_expression, one_tree}
use Rattle.c_ast.proofs.law.law_of_trees.Goals as goal

pub returns : goal.returns
returns c = record { fronts = fronts; statements = one_tree; expressions = one_expression }
