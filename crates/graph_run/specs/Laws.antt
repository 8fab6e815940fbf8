-- Laws of what runs are judged to be, and of the values that they meet.
use Rattle.std.specs.Prelude.{◌≡◌, ℕ, List, ℤ}
use Rattle.c_ast.specs.declared.trace.Trace.{Trace}
use Rattle.c_ast.specs.declared.trace.Outcome.{Outcome}
use Rattle.c_ast.specs.declared.trace.Outcome.TheVariants as outcome
use Rattle.c_ast.specs.Tree.{Program}
use Rattle.c_ast.specs.Judged.{IsJudged}
use Rattle.flow_graph.specs.FlowGraph.{FlowGraph}
use Rattle.flow_graph.specs.Judged.{IsGraphJudged}
use Rattle.graph_run.specs.Answers.{AllFitRun, TraceFitsRun}

-- A graph's run with a limit of marks has at most one outcome.
abbrev pub GraphIsJudgedOnce : Type 0
GraphIsJudgedOnce = (graph : FlowGraph) (inputs : List ℤ) (limit : ℕ) (o p : Outcome)
    → IsGraphJudged graph inputs limit o → IsGraphJudged graph inputs limit p → o ≡ p

-- Where the inputs of a function are below 2^100 in size, so are the values of the trace that a run comes to.
abbrev pub JudgedFits : Type 0
JudgedFits = (f : Program) (inputs : List ℤ) (limit : ℕ) (trace : Trace)
    → AllFitRun inputs → IsJudged f inputs limit (outcome.Returned trace) → TraceFitsRun trace
