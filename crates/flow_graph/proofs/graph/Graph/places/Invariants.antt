use Rattle.std.proofs.Common.{◌≡◌, ◌∷◌, ◌++◌, map, drop}
use Rattle.c_ast.specs.declared.place.Place.TheVariants as place
use Rattle.flow_graph.proofs.graph.Graph.places.Given as goal

abbrev pub invariant-loop-stop : goal.invariant-loop-stop
invariant-loop-stop l = l.places.items ++ map (λ stop. place.Mark stop.mark) (drop l.stop-index l.self.stops)
    ≡ place.Entry ∷ map (λ stop. place.Mark stop.mark) l.self.stops
