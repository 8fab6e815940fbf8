-- A graph is its function's, and does what the function does.
use Rattle.std.specs.Prelude.{◌≡◌, ℕ, ◌↔◌, List, length, ℤ}
use Rattle.c_ast.specs.declared.place.Place.{Place}
use Rattle.c_ast.specs.declared.trace.Trace.{Trace}
use Rattle.c_ast.specs.declared.trace.Outcome.{Outcome}
use Rattle.c_ast.specs.Tree.{Program}
use Rattle.c_ast.specs.Trace.{IsTrace}
use Rattle.c_ast.specs.Segment.{FitsPlace, IsSegment}
use Rattle.c_ast.specs.Scope.{IsPlace, AreInScope}
use Rattle.c_ast.specs.Judged.{IsJudged}
use Rattle.flow_graph.specs.FlowGraph.{FlowGraph, variables_at, width_at, GoesOnAt, HasPlace}
use Rattle.flow_graph.specs.Run.{IsGraphTrace, IsGraphSegment}
use Rattle.flow_graph.specs.Judged.{IsGraphJudged}
use Rattle.flow_graph.specs.Layout.{IsLaidOut}
use Rattle.flow_graph.specs.Stops.{AreStops}

-- The graph has the function's parameters, variables and places, with the same variables in scope there, so that the
-- same values fit; its nodes are the function's statements as they are laid, and its stops those of the marks among
-- them, so that a function has one graph; and its traces, its segments from every place, and what its runs are judged
-- to be are those of the source's steps.
pub record IsGraphOf (f : Program) (graph : FlowGraph) : Type 0 where
  pub params : graph.params ≡ f.params
  pub vars : graph.vars ≡ f.vars
  pub places : (l : Place) → GoesOnAt graph l ↔ IsPlace f l
  pub scopes : (l : Place) → IsPlace f l → AreInScope f l (variables_at graph l)
  pub fits : (l : Place) (e : List ℤ) → HasPlace graph l → FitsPlace f l e ↔ (length e ≡ width_at graph l)
  pub laid : IsLaidOut f graph.ops graph.entry
  pub stops : AreStops f graph.ops graph.stops
  pub traces : (inputs : List ℤ) (trace : Trace) → IsTrace f inputs trace ↔ IsGraphTrace graph inputs trace
  pub segments : (l : Place) (e : List ℤ) (l' : Place) (e' : List ℤ)
      → IsSegment f l e l' e' ↔ IsGraphSegment graph l e l' e'
  pub judged : (inputs : List ℤ) (limit : ℕ) (o : Outcome)
      → IsJudged f inputs limit o ↔ IsGraphJudged graph inputs limit o
