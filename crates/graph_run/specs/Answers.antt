-- What a run answers.
use Rattle.std.specs.Prelude.{ℕ, List, ℤ, All, Result, Ok, Err}
use Rattle.c_ast.specs.declared.trace.Trace.{Trace}
use Rattle.c_ast.specs.declared.trace.Outcome.TheVariants as outcome
use Rattle.c_ast.specs.FitsRun.{FitsRun}
use Rattle.flow_graph.specs.FlowGraph.{FlowGraph}
use Rattle.flow_graph.specs.Judged.{IsGraphJudged}
use Rattle.graph_run.specs.declared.skip.Skip.{Skip}
use Rattle.graph_run.specs.declared.skip.Skip.TheVariants as skip

-- Each of the values is below 2^100 in size.
abbrev pub AllFitRun : List ℤ → Type 0
AllFitRun values = All FitsRun values

-- The values at the marks of a trace and its result are below 2^100 in size.
pub record TraceFitsRun (trace : Trace) : Type 0 where
  pub events : All (λ event. AllFitRun event.values) trace.events
  pub result : FitsRun trace.result

-- The trace, or the cause that is met first; want of memory says nothing. That an input does not meet a condition is no
-- answer of a run.
abbrev pub Answers : FlowGraph → List ℤ → ℕ → Result Trace Skip → Type 0
Answers graph inputs marks (Ok trace) = IsGraphJudged graph inputs marks (outcome.Returned trace) × TraceFitsRun trace
Answers graph inputs marks (Err skip.NotEnded) = IsGraphJudged graph inputs marks outcome.CutOff
Answers graph inputs marks (Err skip.Wide) = IsGraphJudged graph inputs marks outcome.Wide
Answers graph inputs marks (Err skip.Unmet) = ⊥
Answers graph inputs marks (Err skip.Memory) = Unit {0}
