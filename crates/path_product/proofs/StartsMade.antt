-- The starts of a graph, one place after another, as the code makes them.
use Rattle.std.proofs.Common.{◌≡◌, ◌≢◌, ℕ, ◌+◌, ◌<◌, ◌≤◌, List, [], ◌∷◌, ◌++◌, length, drop, get_or, map, All, refl, sym, ap, ◌-◌, take, length-append, arith, ◌∙◌, append-nil, append_assoc}
use Rattle.std.specs.Prelude.{Result, Ok, Err}
use Rattle.std.proofs.lemmas.List.{drop_more, drop_all, take_at}
use Rattle.std.proofs.lemmas.List.Elements.{All-cons, All-map}
use Rattle.c_ast.specs.declared.place.Place.{Place}
use Rattle.c_ast.specs.declared.place.Place.TheVariants as place
use Rattle.flow_graph.specs.FlowGraph.{FlowGraph, places_of, HasPlace, GoesOnAt}
use Rattle.flow_graph.specs.declared.stop.Stop.{Stop}
use Rattle.sym_paths.specs.declared.limit.PathLimit.{PathLimit}
use Rattle.sym_paths.specs.declared.case.Case.{Case}
use Rattle.sym_paths.specs.Cases.{cases_of}
use Rattle.path_product.specs.declared.starts.Start.{Start}
use Rattle.path_product.specs.declared.starts.SegmentsFault.{SegmentsFault}
use Rattle.path_product.specs.declared.starts.SegmentsFault.TheVariants.{AtPlace, Memory}
use Rattle.path_product.specs.Starts.{places_from, with_start, starts_among}
use Rattle.path_product.specs.Refusals.{IsFault}

-- what is made, and then others, unless a place is refused
abbrev pub behind_starts : List Start → Result (List Start) (Place × PathLimit) → Result (List Start) (Place × PathLimit)
behind_starts made (Ok starts) = Ok (made ++ starts)
behind_starts made (Err refused) = Err refused

module _ (graph : FlowGraph) where
  -- one place, and then others
  one_more : (l : Place) (cases : Result (List Case) PathLimit) (others : Result (List Start) (Place × PathLimit)) (start : Start)
      → with_start graph l cases (Ok []) ≡ Ok (start ∷ []) → with_start graph l cases others ≡ behind_starts (start ∷ []) others
  one_more l (Ok cases) (Ok starts) start is = ap (λ (first : Start). Ok (first ∷ starts)) (cc)
  one_more l (Ok cases) (Err refused) start is = refl
  one_more l (Err why) others start is = absurd cc

  behind_both : (made : List Start) (start : Start) (others : Result (List Start) (Place × PathLimit))
      → behind_starts made (behind_starts (start ∷ []) others) ≡ behind_starts (made ++ start ∷ []) others
  behind_both made start (Ok starts) = ap Ok (sym (append_assoc made (start ∷ []) starts))
  behind_both made start (Err refused) = refl

  refused_first : (l : Place) (cases : Result (List Case) PathLimit) (others : Result (List Start) (Place × PathLimit)) (refused : Place × PathLimit)
      → with_start graph l cases (Ok []) ≡ Err refused → with_start graph l cases others ≡ Err refused
  refused_first l (Ok cases) others refused is = absurd cc
  refused_first l (Err why) others refused is = is

  module _ (all : List Place) (i : ℕ) (l : Place) (below : i < length all) (is : l ≡ get_or all i l) (made : List Start)
      (same : starts_among graph all ≡ behind_starts made (starts_among graph (drop i all))) where
    all_are : starts_among graph all ≡ behind_starts made (with_start graph l (cases_of graph l) (starts_among graph (drop (i + 1) all)))
    all_are =
        same ∙ ap (λ (places : List Place). behind_starts made (starts_among graph places)) (drop_more all i l below)
        ∙ ap (λ (m : Place). behind_starts made (starts_among graph (m ∷ drop (i + 1) all))) (sym is)

    pub next_made : (start : Start) → starts_among graph (l ∷ []) ≡ Ok (start ∷ [])
        → starts_among graph all ≡ behind_starts (made ++ start ∷ []) (starts_among graph (drop (i + 1) all))
    next_made start one =
        all_are ∙ ap (behind_starts made) (one_more l (cases_of graph l) (starts_among graph (drop (i + 1) all)) start one)
        ∙ behind_both made start (starts_among graph (drop (i + 1) all))

    pub next_refused : (why : SegmentsFault) → IsFault (starts_among graph (l ∷ [])) why → IsFault (starts_among graph all) why
    next_refused Memory fault = tt
    next_refused (AtPlace m why) fault = (
      fault.0,
      all_are ∙ ap (behind_starts made) (refused_first l (cases_of graph l) (starts_among graph (drop (i + 1) all)) (m, why) fault.1),
    )

  pub all_made : (all : List Place) (i : ℕ) → length all ≤ i → (made : List Start)
      → starts_among graph all ≡ behind_starts made (starts_among graph (drop i all)) → starts_among graph all ≡ Ok made
  all_made all i past made same =
      same ∙ ap (λ (places : List Place). behind_starts made (starts_among graph places)) (drop_all i all past) ∙ ap Ok (append-nil made)

  -- ---- the places

  -- all but the exit
  pub without_exit : (n : ℕ) (all : List Place) → all ≡ places_of graph → n ≡ length all → take (n - 1) all ≡ places_from graph
  without_exit n all are count =
      let long : length all ≡ length (places_from graph) + 1 = ap length are ∙ length-append (places_from graph) (place.Exit ∷ []) in
      let front : length (places_from graph) ≡ n - 1 = omega (arith, count, long) in
      ap (take (n - 1)) are ∙ take_at (places_from graph) (place.Exit ∷ []) (n - 1) front

  none_is_exit : All (λ l. l ≢ place.Exit) (places_from graph)
  none_is_exit =
      All-cons (λ l. l ≢ place.Exit) place.Entry (map (λ (stop : Stop). place.Mark stop.mark) graph.stops) (λ is. cc)
      (All-map (λ l. l ≢ place.Exit) (λ (stop : Stop). place.Mark stop.mark) graph.stops (λ k d below. λ is. cc))

  goes_there : (l : Place) → HasPlace graph l → l ≢ place.Exit → GoesOnAt graph l
  goes_there place.Entry has elsewhere = tt
  goes_there (place.Mark mark) has elsewhere = has
  goes_there place.Exit has elsewhere = elsewhere refl

  pub all_go_on : (places : List Place) → places ≡ places_from graph → All (HasPlace graph) places → All (GoesOnAt graph) places
  all_go_on places are has = λ k d below. goes_there (get_or places k d) (has k d below) (elsewhere k d below)
    where
      elsewhere : All (λ l. l ≢ place.Exit) places
      elsewhere = rw are none_is_exit
