-- The parts of a flow graph, and what stands at its places.
use Rattle.std.specs.Prelude.{ℕ, ◌==◌, List, [], ◌∷◌, ◌++◌, length, Option, Some, None, IsSome, map, filter_map, find, slice_get}
use Rattle.std.specs.Option.{option_map}
use Rattle.c_ast.specs.declared.place.Place.{Place}
use Rattle.c_ast.specs.declared.place.Place.TheVariants as place
use Rattle.c_ast.specs.Step.{first_variables}
use Rattle.c_ast.specs.Scope.{variables_in}
use Rattle.flow_graph.specs.declared.op.Op.{Op}
use Rattle.flow_graph.specs.declared.stop.Stop.{Stop}
use Rattle.flow_graph.specs.Operation.{Operation, operation_of}

-- The numbers of parameters and of variables, the nodes by number, the node at which a run begins, and the marks. A
-- `Stop` (src/stop.rt) is a mark, the node at which a run goes on from it, and the variables in scope there, by rising
-- number.
pub record FlowGraph : Type 0 where
  pub params : ℕ
  pub vars : ℕ
  pub ops : List Op
  pub entry : ℕ
  pub stops : List Stop

-- The graph of these parts.
abbrev pub flow_graph : ℕ → ℕ → List Op → ℕ → List Stop → FlowGraph
flow_graph params vars ops entry stops =
    record { params = params; vars = vars; ops = ops; entry = entry; stops = stops }

-- The operation of the node with this number, where there is one.
abbrev pub operation_at : FlowGraph → ℕ → Option Operation
operation_at graph node = option_map operation_of (slice_get graph.ops node)

-- What the graph knows of a mark, where it has the mark.
abbrev pub stop_of : List Stop → ℕ → Option Stop
stop_of stops mark = find (λ stop. stop.mark == mark) stops

-- The node at which a run goes on from the mark.
abbrev pub next_of : Option Stop → ℕ
next_of None = 0
next_of (Some stop) = stop.next

-- The variables in scope at the mark, by rising number.
abbrev pub scope_of_stop : Option Stop → List ℕ
scope_of_stop None = []
scope_of_stop (Some stop) = stop.scope

-- The node at which a run goes on from the place.
abbrev pub node_after : FlowGraph → Place → ℕ
node_after graph place.Entry = graph.entry
node_after graph (place.Mark mark) = next_of (stop_of graph.stops mark)
node_after graph place.Exit = 0

-- The variables in scope at the place, by rising number; at the exit the result alone has a value.
abbrev pub variables_at : FlowGraph → Place → List ℕ
variables_at graph place.Entry = variables_in (first_variables graph.params) graph.vars
variables_at graph (place.Mark mark) = scope_of_stop (stop_of graph.stops mark)
variables_at graph place.Exit = []

-- How many values a run has at the place: one for each variable in scope, and at the exit the result alone.
abbrev pub width_at : FlowGraph → Place → ℕ
width_at graph place.Entry = length (variables_at graph place.Entry)
width_at graph (place.Mark mark) = length (variables_at graph (place.Mark mark))
width_at graph place.Exit = 1

-- The entry, the marks by rising number, and the exit.
abbrev pub places_of : FlowGraph → List Place
places_of graph = place.Entry ∷ map (λ stop. place.Mark stop.mark) graph.stops ++ place.Exit ∷ []

-- The mark, where the place is one.
abbrev pub mark_of : Place → Option ℕ
mark_of place.Entry = None
mark_of (place.Mark mark) = Some mark
mark_of place.Exit = None

-- The marks among places, in their order.
abbrev pub marks_among : List Place → List ℕ
marks_among places = filter_map mark_of places

-- The place is one of the graph's, at which a run goes on: the entry or a mark.
abbrev pub GoesOnAt : FlowGraph → Place → Type 0
GoesOnAt graph place.Entry = Unit {0}
GoesOnAt graph (place.Mark mark) = IsSome (stop_of graph.stops mark)
GoesOnAt graph place.Exit = ⊥

-- The place is one of the graph's.
abbrev pub HasPlace : FlowGraph → Place → Type 0
HasPlace graph place.Entry = Unit {0}
HasPlace graph (place.Mark mark) = IsSome (stop_of graph.stops mark)
HasPlace graph place.Exit = Unit {0}
