-- Whether a graph's run returns after few marks, with values below 2^100 in size; where it does not, what is met first.
use Rattle.std.specs.Prelude.{◌≡◌, ℕ, List, Some, ℤ}
use Rattle.c_ast.specs.declared.trace.Outcome.{Outcome}
use Rattle.c_ast.specs.declared.trace.Outcome.TheVariants as outcome
use Rattle.c_ast.specs.Step.{first_variables, spread}
use Rattle.c_ast.specs.FitsRun.{evaluates_fitting}
use Rattle.c_ast.specs.Outcome.{returned}
use Rattle.c_ast.specs.Judged.{at_most}
use Rattle.flow_graph.specs.FlowGraph.{FlowGraph}
use Rattle.flow_graph.specs.Run.{seen_from}

-- What `IsJudged` says of a function, of a graph: some number of steps has this outcome, the trace, `CutOff` at mark
-- number `limit + 1`, or `Wide` at the first value of 2^100 or more in size, whichever comes first.
pub record IsGraphJudged (graph : FlowGraph) (inputs : List ℤ) (limit : ℕ) (o : Outcome) : Type 0 where
  pub steps : ℕ
  pub is : seen_from evaluates_fitting (Some outcome.Wide) (at_most limit) returned graph steps 0 graph.entry
      (spread (first_variables graph.params) graph.vars inputs) ≡ Some o
