-- The places of a graph.
use Rattle.std.proofs.lemmas.Bool.{eq-eqb}
use Rattle.std.proofs.Common.{◌≡◌, ℕ, Bool, true, false, cond, ◌≤◌, List, [], ◌∷◌, ◌++◌, length, map, drop, drop_of_length-le, append-nil, All, get_or, Option, Some, IsSome, refl, sym, ap, ◌∙◌, subst, arith}
use Rattle.std.proofs.lemmas.List.Elements.{All-cons, All-append, All-map}
use Rattle.std.specs.Prelude.{◌==◌}
use Rattle.std.specs.List.Sorted.{IsStrictlyIncreasing}
use Rattle.c_ast.specs.declared.place.Place.{Place}
use Rattle.c_ast.specs.declared.place.Place.TheVariants as place
use Rattle.flow_graph.specs.declared.stop.Stop.{Stop}
use Rattle.flow_graph.specs.FlowGraph.{FlowGraph, stop_of, places_of, marks_among, HasPlace}

found_first : (t : Bool) (stop : Stop) (others : Option Stop) → t ≡ true → IsSome (cond t (Some stop) others)
found_first t stop others is = subst (λ (b : Bool). IsSome (cond b (Some stop) others)) (sym is) refl

found_later : (t : Bool) (stop : Stop) (others : Option Stop) → IsSome others → IsSome (cond t (Some stop) others)
found_later true stop others found = refl
found_later false stop others found = found

-- each of the stops is found
stops_found : (stops : List Stop) → All (λ stop. IsSome (stop_of stops stop.mark)) stops
stops_found [] = λ k d below. absurd (omega arith)
stops_found (stop ∷ stops) =
    let more = stops_found stops in
    All-cons (λ (z : Stop). IsSome (stop_of (stop ∷ stops) z.mark)) stop stops (found_first (stop.mark == stop.mark) stop (stop_of stops stop.mark)
    (eq-eqb stop.mark stop.mark refl))
    (λ k d below. let other = get_or stops k d in found_later (stop.mark == other.mark) stop (stop_of stops other.mark) (more k d below))

pub places_are : (graph : FlowGraph) → All (HasPlace graph) (places_of graph)
places_are graph =
    All-cons (HasPlace graph) place.Entry _ tt (All-append (HasPlace graph) (map (λ (stop : Stop). place.Mark stop.mark) graph.stops) (place.Exit ∷ [])
    (All-map (HasPlace graph) (λ (stop : Stop). place.Mark stop.mark) graph.stops (stops_found graph.stops))
    (All-cons (HasPlace graph) place.Exit [] tt (λ k d below. absurd (omega arith))))

pub places_listed : (stops : List Stop) (i : ℕ) (listed new : List Place) → length stops ≤ i
    → listed ++ map (λ (stop : Stop). place.Mark stop.mark) (drop i stops) ≡ place.Entry ∷ map (λ (stop : Stop). place.Mark stop.mark) stops
    → new ≡ listed ++ place.Exit ∷ [] → new ≡ place.Entry ∷ map (λ (stop : Stop). place.Mark stop.mark) stops ++ place.Exit ∷ []
places_listed stops i listed new past lists new_is =
    let all : listed ≡ place.Entry ∷ map (λ (stop : Stop). place.Mark stop.mark) stops =
    sym (append-nil listed) ∙ ap (λ (z : List Stop). listed ++ map (λ (stop : Stop). place.Mark stop.mark) z) (sym (drop_of_length-le stops past)) ∙ lists in
    new_is ∙ ap (λ (z : List Place). z ++ place.Exit ∷ []) all

marks_are : (stops : List Stop) → marks_among (map (λ (stop : Stop). place.Mark stop.mark) stops ++ place.Exit ∷ []) ≡ map (λ (stop : Stop). stop.mark) stops
marks_are [] = refl
marks_are (stop ∷ stops) = ap (λ (marks : List ℕ). stop.mark ∷ marks) (marks_are stops)

pub marks_rise : (graph : FlowGraph) → IsStrictlyIncreasing (map (λ (stop : Stop). stop.mark) graph.stops)
    → IsStrictlyIncreasing (marks_among (places_of graph))
marks_rise graph rising = subst IsStrictlyIncreasing (sym (marks_are graph.stops)) rising
