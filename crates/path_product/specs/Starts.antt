-- What a graph does from each of its places but the exit: the cases of the segments from there.
use Rattle.std.specs.Prelude.{ℕ, List, [], ◌∷◌, map, find, Option, Some, None, Result, Ok, Err}
use Rattle.c_ast.specs.declared.place.Place.{Place}
use Rattle.c_ast.specs.declared.place.Place.TheVariants as place
use Rattle.c_ast.specs.Place.{is_same_place}
use Rattle.flow_graph.specs.FlowGraph.{FlowGraph, width_at}
use Rattle.sym_paths.specs.declared.limit.PathLimit.{PathLimit}
use Rattle.sym_paths.specs.declared.case.Case.{Case}
use Rattle.sym_paths.specs.Cases.{cases_of}
use Rattle.path_product.specs.declared.starts.Start.{Start}

-- The entry, and the marks by rising number.
abbrev pub places_from : FlowGraph → List Place
places_from graph = place.Entry ∷ map (λ stop. place.Mark stop.mark) graph.stops

-- The place with these cases.
abbrev pub start : FlowGraph → Place → List Case → Start
start graph l cases = record { place = l; width = width_at graph l; cases = cases }

-- One place more, unless the walk from it meets a limit, or one from a place behind it does.
abbrev pub with_start : FlowGraph → Place → Result (List Case) PathLimit → Result (List Start) (Place × PathLimit)
    → Result (List Start) (Place × PathLimit)
with_start graph l (Err limit) others = Err (l, limit)
with_start graph l (Ok cases) (Err refused) = Err refused
with_start graph l (Ok cases) (Ok starts) = Ok (start graph l cases ∷ starts)

-- These places with their cases, or the first of them from which the walk meets a limit.
abbrev pub starts_among : FlowGraph → List Place → Result (List Start) (Place × PathLimit)
starts_among graph [] = Ok []
starts_among graph (l ∷ places) = with_start graph l (cases_of graph l) (starts_among graph places)

-- Those of the whole graph.
abbrev pub starts_of : FlowGraph → Result (List Start) (Place × PathLimit)
starts_of graph = starts_among graph (places_from graph)

-- ---- what stands there

-- What is known of the place, where it is one of them.
abbrev pub start_at : List Start → Place → Option Start
start_at starts l = find (λ start. is_same_place start.place l) starts

-- How many values a run has there.
abbrev pub width_of_start : Option Start → ℕ
width_of_start None = 0
width_of_start (Some start) = start.width

-- How many values a run has at the place; at the exit the result alone.
abbrev pub width_in : List Start → Place → ℕ
width_in starts place.Exit = 1
width_in starts l = width_of_start (start_at starts l)

-- The cases from there.
abbrev pub cases_of_start : Option Start → List Case
cases_of_start None = []
cases_of_start (Some start) = start.cases

-- The cases of the segments from the place; none lead from the exit.
abbrev pub cases_in : List Start → Place → List Case
cases_in starts l = cases_of_start (start_at starts l)
