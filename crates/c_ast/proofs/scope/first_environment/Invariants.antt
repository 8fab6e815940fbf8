use Rattle.c_ast.proofs.Environments.{ListsInputs}
use Rattle.c_ast.proofs.scope.first_environment.Given as goal

abbrev pub invariant-loop-x : goal.invariant-loop-x
invariant-loop-x l = ListsInputs l.inputs l.vars l.x l.values.items
