-- Laws of graphs: that a function has one, the places that follow one another, and the values there.
use Rattle.std.specs.Prelude.{◌≡◌, ℕ, List, ℤ, length, map}
use Rattle.c_ast.specs.declared.place.Place.{Place}
use Rattle.c_ast.specs.declared.place.Place.TheVariants as place
use Rattle.c_ast.specs.Tree.{Program}
use Rattle.flow_graph.specs.FlowGraph.{FlowGraph, width_at, GoesOnAt, HasPlace}
use Rattle.flow_graph.specs.Run.{values_with, IsGraphSegment}
use Rattle.flow_graph.specs.WellFormed.{IsFlowGraph}
use Rattle.flow_graph.specs.Built.{IsGraphOf}

-- A function has one graph.
abbrev pub GraphIsOne : Type 0
GraphIsOne = (f : Program) (first second : FlowGraph) → IsGraphOf f first → IsGraphOf f second → first ≡ second

-- From a place with any values at most one place is met next, with one list of values.
abbrev pub GraphSegmentIsDetermined : Type 0
GraphSegmentIsDetermined = (graph : FlowGraph) (l : Place) (e : List ℤ) (a b : Place) (c d : List ℤ)
    → IsGraphSegment graph l e a c → IsGraphSegment graph l e b d → (a ≡ b) × (c ≡ d)

-- From the entry and from each mark, with any values, a place is met next: each cycle passes a mark.
abbrev pub GraphSegmentExists : Type 0
GraphSegmentExists = (graph : FlowGraph) → IsFlowGraph graph → (l : Place) (e : List ℤ) → GoesOnAt graph l
    → (l' : Place) × (e' : List ℤ) × IsGraphSegment graph l e l' e'

-- The place that is met is one of the graph's, and the values are as many as a run has there.
abbrev pub GraphSegmentFits : Type 0
GraphSegmentFits = (graph : FlowGraph) → IsFlowGraph graph → (l : Place) (e : List ℤ) (l' : Place) (e' : List ℤ)
    → IsGraphSegment graph l e l' e' → HasPlace graph l' × (length e' ≡ width_at graph l')

-- At the entry a run has the parameters' values.
abbrev pub EntryHasParameters : Type 0
EntryHasParameters = (graph : FlowGraph) → IsFlowGraph graph → width_at graph place.Entry ≡ graph.params

-- A function of the values of these variables may be taken before or after they are listed.
abbrev pub MapOfListed : (A B : Type 0) → Type 0
MapOfListed A B = (g : A → B) (absent : A) (variables : List ℕ) (env : List A)
    → map g (values_with absent variables env) ≡ values_with (g absent) variables (map g env)
