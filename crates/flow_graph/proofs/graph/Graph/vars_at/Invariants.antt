use Rattle.c_ast.specs.Step.{first_variables}
use Rattle.flow_graph.proofs.Listing.{ListsVariables}
use Rattle.flow_graph.proofs.graph.Graph.vars_at.Given as goal

abbrev pub invariant-loop-x : goal.invariant-loop-x
invariant-loop-x l = ListsVariables (first_variables l.self.params) l.self.vars l.x l.variables.items
