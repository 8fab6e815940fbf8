use Rattle.std.proofs.Common.{◌++◌}
use Rattle.c_ast.specs.Step.{first_variables}
use Rattle.c_ast.proofs.InScope.{ListsVariables}
use Rattle.c_ast.proofs.func.Func.scope.Given as goal

abbrev pub invariant-loop-x : goal.invariant-loop-x
invariant-loop-x l = ListsVariables (l.before-inside.items.items ++ first_variables l.self.params) l.x-end l.x l.variables.items
