-- One step of a run whose values are below 2^100 in size.
use Rattle.std.specs.Prelude.{◌≡◌, ℕ, ◌<◌, true, false, List, ℤ}
use Rattle.c_ast.specs.declared.place.Place.TheVariants as place
use Rattle.c_ast.specs.declared.trace.Event.{Event}
use Rattle.c_ast.specs.Value.{CanEvaluate}
use Rattle.c_ast.specs.FitsRun.{evaluates_fitting}
use Rattle.flow_graph.specs.FlowGraph.{FlowGraph, variables_at}
use Rattle.flow_graph.specs.Operation.{Operation, Set, Branch, Mark, Return}
use Rattle.flow_graph.specs.Run as graph
use Rattle.flow_graph.specs.Run.{Turn, turn, operand, values_of}
use Rattle.graph_run.specs.declared.step.Next.{Next}
use Rattle.graph_run.specs.declared.step.Next.TheVariants as next

-- The operation can be done where n variables have values: it sets one of them, and can evaluate its expression.
abbrev pub VariablesAre : ℕ → Operation → Type 0
VariablesAre n (Set x e after) = (x < n) × CanEvaluate n e
VariablesAre n (Branch e first second) = CanEvaluate n e
VariablesAre n (Mark mark after) = Unit {0}
VariablesAre n (Return e) = CanEvaluate n e

-- Each part of what the operation evaluates is below 2^100 in size, and the operation comes to this turn.
abbrev pub Fits : Operation → List ℤ → Turn → Type 0
Fits op old is = (evaluates_fitting (operand op) old ≡ true) × (turn op old ≡ is)

-- The step from one environment to the next is the graph's, or meets a value of 2^100 or more in size.
abbrev pub TakesStep : Operation → List ℤ → Next → List ℤ → Type 0
TakesStep op old (next.Goes node) new = Fits op old (graph.Goes node new)
TakesStep op old (next.Passes mark node) new = Fits op old (graph.Passes mark node new)
TakesStep op old (next.Ends value) new = Fits op old (graph.Ends value)
TakesStep op old next.Wide new = evaluates_fitting (operand op) old ≡ false

-- The event of passing the mark in this environment of all variables.
abbrev pub event_of : FlowGraph → ℕ → List ℤ → Event
event_of graph mark env = record { mark = mark; values = values_of (variables_at graph (place.Mark mark)) env }
