-- What is known where a product is made: its places in their order, and what was made at each node.
use Rattle.std.proofs.Common.{◌≡◌, ℕ, suc, ◌+◌, ◌<◌, ◌≤◌, Bool, true, false, cond, ◌⊎◌, inl, inr, List, [], ◌∷◌, ◌++◌, length, map, All, AllPairs, Some, IsSome, refl, sym, ap, subst, ◌∙◌, true≢false, arith}
use Rattle.std.specs.Prelude.{nat_le, Result, Ok, Err}
use Rattle.std.proofs.lemmas.Bool.{leb-true}
use Rattle.std.proofs.lemmas.List.Elements.{All-head, All-tail}
use Rattle.std.proofs.lemmas.List.Kept.{AllPairs-from_increasing}
use Rattle.c_ast.specs.declared.place.Place.{Place}
use Rattle.c_ast.specs.declared.place.Place.TheVariants as place
use Rattle.c_ast.specs.Place.{is_same_place, ComesBefore}
use Rattle.c_ast.specs.Tree.{Expression}
use Rattle.c_ast.proofs.Laws.{law_of_places}
use Rattle.lin_terms.specs.declared.row.Row.{Row}
use Rattle.flow_graph.specs.declared.stop.Stop.{Stop}
use Rattle.flow_graph.specs.FlowGraph.{FlowGraph}
use Rattle.flow_graph.specs.WellFormed.{IsFlowGraph}
use Rattle.horn_clauses.specs.declared.node.Node.{Node}
use Rattle.horn_clauses.specs.declared.clause.Clause.{Clause}
use Rattle.horn_clauses.specs.declared.clause.Product.{Product}
use Rattle.horn_clauses.specs.Node.{entries, exits, is_same_node}
use Rattle.horn_clauses.proofs.Laws.{law_of_nodes}
use Rattle.sym_paths.specs.declared.limit.PathLimit.{PathLimit}
use Rattle.sym_paths.specs.declared.case.Case.{Case}
use Rattle.sym_paths.specs.Walk.{Path}
use Rattle.sym_paths.specs.Points.{EachOf}
use Rattle.sym_paths.specs.Nodes.{End}
use Rattle.sym_paths.specs.Cases.{cases_of}
use Rattle.sym_paths.specs.Condition.{condition_cases}
use Rattle.path_product.specs.declared.starts.Start.{Start}
use Rattle.path_product.specs.declared.limit.ProductLimit.{ProductLimit}
use Rattle.path_product.specs.declared.limit.ProductLimit.TheVariants as limit
use Rattle.path_product.specs.Starts.{places_from, start, with_start, starts_among, starts_of, start_at, width_in}
use Rattle.path_product.specs.Fits.{HasStart}
use Rattle.path_product.specs.Sides.{side_cases}
use Rattle.path_product.specs.Clauses.{clauses_of}
use Rattle.path_product.specs.Product.{without, and_then, at_node, moves_at, conditions_at, coupled_at, clauses_at, Visit, explored, all_places, all_nodes, product_of_visits, at_first, at_second, product_under}
use Rattle.path_product.proofs.Places.{IsIn, in_left, in_right, in_either, Rise, rise_joined}
use Rattle.path_product.proofs.Closing.{ok_is}

-- ---- the places of a side

-- a place that is found is one of the starts'
found_in : (l : Place) (starts : List Start) → IsSome (start_at starts l) → IsIn l (map (λ (z : Start). z.place) starts)
found_in l [] found = absurd (true≢false (sym found))
found_in l (first ∷ starts) found = on (found_in l starts) (is_same_place first.place l) refl found
  where
    on : (IsSome (start_at starts l) → IsIn l (map (λ (z : Start). z.place) starts)) → (same : Bool) → is_same_place first.place l ≡ same
        → IsSome (cond same (Some first) (start_at starts l)) → IsIn l (first.place ∷ map (λ (z : Start). z.place) starts)
    on again true is found = inl (sym ((law_of_places first.place l).0 is))
    on again false is found = inr (again found)

-- and one of theirs is found
in_found : (l : Place) (starts : List Start) → IsIn l (map (λ (z : Start). z.place) starts) → IsSome (start_at starts l)
in_found l [] has = absurd has
in_found l (first ∷ starts) (inl same) =
    subst (λ (b : Bool). IsSome (cond b (Some first) (start_at starts l))) (sym ((law_of_places first.place l).1 (sym same))) refl
in_found l (first ∷ starts) (inr has) = on (is_same_place first.place l) (in_found l starts has)
  where
    on : (same : Bool) → IsSome (start_at starts l) → IsSome (cond same (Some first) (start_at starts l))
    on true found = refl
    on false found = found

pub exit_in : (starts : List Start) → IsIn place.Exit (all_places starts)
exit_in starts = in_right place.Exit (map (λ (z : Start). z.place) starts) (place.Exit ∷ []) (inl refl)

-- The places of a side are those that it has, and the exit.
pub start_in : (starts : List Start) (l : Place) → HasStart starts l → IsIn l (all_places starts)
start_in starts place.Entry has =
    in_left place.Entry (map (λ (z : Start). z.place) starts) (place.Exit ∷ []) (found_in place.Entry starts has)
start_in starts (place.Mark k) has =
    in_left (place.Mark k) (map (λ (z : Start). z.place) starts) (place.Exit ∷ []) (found_in (place.Mark k) starts has)
start_in starts place.Exit has = exit_in starts

start_there : (starts : List Start) (l : Place) → IsIn l (map (λ (z : Start). z.place) starts) → HasStart starts l
start_there starts place.Entry has = in_found place.Entry starts has
start_there starts (place.Mark k) has = in_found (place.Mark k) starts has
start_there starts place.Exit has = tt

pub in_starts : (starts : List Start) (l : Place) → IsIn l (all_places starts) → HasStart starts l
in_starts starts l has = on (in_either l (map (λ (z : Start). z.place) starts) (place.Exit ∷ []) has)
  where
    on : IsIn l (map (λ (z : Start). z.place) starts) ⊎ IsIn l (place.Exit ∷ []) → HasStart starts l
    on (inl there) = start_there starts l there
    on (inr (inl same)) = subst (HasStart starts) (sym same) tt
    on (inr (inr never)) = absurd never

-- starts stand in the order of their places
places_among : (graph : FlowGraph) (places : List Place) (starts : List Start) → starts_among graph places ≡ Ok starts
    → map (λ (z : Start). z.place) starts ≡ places
places_among graph [] [] made = refl
places_among graph [] (first ∷ starts) made = cc
places_among graph (l ∷ places) starts made = on (places_among graph places) (cases_of graph l) (starts_among graph places) refl made
  where
    on : ((others : List Start) → starts_among graph places ≡ Ok others → map (λ (z : Start). z.place) others ≡ places)
        → (cases : Result (List Case) PathLimit) (r : Result (List Start) (Place × PathLimit)) → starts_among graph places ≡ r
        → with_start graph l cases r ≡ Ok starts → map (λ (z : Start). z.place) starts ≡ l ∷ places
    on again (Err refused) r is made = cc
    on again (Ok cases) (Err refused) is made = cc
    on again (Ok cases) (Ok others) is made =
        let all : start graph l cases ∷ others ≡ starts = cc in
        ap (map (λ (z : Start). z.place)) (sym all) ∙ ap (λ (z : List Place). l ∷ z) (again others is)

marks_behind : (k : ℕ) (stops : List Stop) → All (λ mark. k < mark) (map (λ (stop : Stop). stop.mark) stops)
    → EachOf (ComesBefore (place.Mark k)) (map (λ (stop : Stop). place.Mark stop.mark) stops)
marks_behind k [] below = tt
marks_behind k (stop ∷ stops) below =
    let marks : List ℕ = map (λ (z : Stop). z.mark) stops in
    (All-head (λ mark. k < mark) stop.mark marks below, marks_behind k stops (All-tail (λ mark. k < mark) stop.mark marks below))

marks_rise : (stops : List Stop) → AllPairs (λ x y. x < y) (map (λ (stop : Stop). stop.mark) stops)
    → Rise ComesBefore (map (λ (stop : Stop). place.Mark stop.mark) stops)
marks_rise [] below = tt
marks_rise (stop ∷ stops) below = (
  marks_behind stop.mark stops (λ j d within. below 0 (suc j) d (omega arith) (omega (arith, within))),
  marks_rise stops (λ i j d first within. below (suc i) (suc j) d (omega (arith, first)) (omega (arith, within))),
)

rise_from : (graph : FlowGraph) → IsFlowGraph graph → Rise ComesBefore (places_from graph ++ place.Exit ∷ [])
rise_from graph is =
    rise_joined ComesBefore (places_from graph) (place.Exit ∷ []) (entry_first graph.stops, marks_rise graph.stops rising) (tt, tt) before
  where
    rising : AllPairs (λ x y. x < y) (map (λ (stop : Stop). stop.mark) graph.stops)
    rising = AllPairs-from_increasing (map (λ (stop : Stop). stop.mark) graph.stops) is.rising

    entry_first : (stops : List Stop) → EachOf (ComesBefore place.Entry) (map (λ (stop : Stop). place.Mark stop.mark) stops)
    entry_first [] = tt
    entry_first (stop ∷ stops) = (tt, entry_first stops)

    marks_first : (stops : List Stop) (x : Place) → IsIn x (map (λ (stop : Stop). place.Mark stop.mark) stops) → ComesBefore x place.Exit
    marks_first [] x has = absurd has
    marks_first (stop ∷ stops) x (inl same) = subst (λ (z : Place). ComesBefore z place.Exit) (sym same) tt
    marks_first (stop ∷ stops) x (inr has) = marks_first stops x has

    before : (x y : Place) → IsIn x (places_from graph) → IsIn y (place.Exit ∷ []) → ComesBefore x y
    before x y (inl same) (inl last) = subst (λ (z : Place). ComesBefore z y) (sym same) (subst (ComesBefore place.Entry) (sym last) tt)
    before x y (inr has) (inl last) = subst (ComesBefore x) (sym last) (marks_first graph.stops x has)
    before x y has (inr never) = absurd never

-- The places of a side are in their order.
pub rise_places : (graph : FlowGraph) → IsFlowGraph graph → (starts : List Start) → starts_of graph ≡ Ok starts → Rise ComesBefore (all_places starts)
rise_places graph is starts made =
    subst (λ (z : List Place). Rise ComesBefore (z ++ place.Exit ∷ [])) (sym (places_among graph (places_from graph) starts made)) (rise_from graph is)

-- ---- what was made

then_ok : {A B E F : Type 0} (told : E → F) (r : Result A E) (others : A → Result B F) (b : B) → and_then told r others ≡ Ok b
    → (a : A) × (r ≡ Ok a) × (others a ≡ Ok b)
then_ok told (Ok a) others b is = (a, refl, is)
then_ok told (Err refused) others b is = cc

module _ (first second : List Start) (alignment : ℕ) (cases : List (List Row)) where
  -- The cases of both sides' moves from a node, and the clauses of these.
  pub record IsMade (n : Node) (clauses : List Clause) : Type 0 where
    pub xs : List (Path End)
    pub ys : List (Path End)
    pub left : side_cases first (moves_at first second alignment cases n).0 n.0 ≡ Ok xs
    pub right : side_cases second (moves_at first second alignment cases n).1 n.1 ≡ Ok ys
    pub clauses_are : clauses_of n (width_in first n.0) (width_in second n.1) (conditions_at first second alignment cases n) xs ys ≡ Ok clauses

  coupled_made : (n : Node) (clauses : List Clause) → coupled_at first second alignment cases n ≡ Ok clauses → IsMade n clauses
  coupled_made n clauses made =
      let one = then_ok (at_node n) (side_cases first (moves_at first second alignment cases n).0 n.0) _ clauses made in
      let two = then_ok (at_node n) (side_cases second (moves_at first second alignment cases n).1 n.1) _ clauses one.2 in
      let three = then_ok (at_node n)
      (clauses_of n (width_in first n.0) (width_in second n.1) (conditions_at first second alignment cases n) one.0 two.0) Ok clauses two.2 in
      let same : three.0 ≡ clauses = ok_is {E = ProductLimit} (Ok three.0) three.0 clauses refl three.2 in
      record { xs = one.0; ys = two.0; left = one.1; right = two.1; clauses_are = three.1 ∙ ap (λ (z : List Clause). Ok z) same }

  -- What is known where a node's clauses are made.
  pub record IsTaken (n : Node) (clauses : List Clause) : Type 0 where
    pub few : width_in first n.0 + width_in second n.1 ≤ 16
    pub either : ((n ≡ exits) × (clauses ≡ [])) ⊎ IsMade n clauses

  pub clauses_taken : (n : Node) (clauses : List Clause) → clauses_at first second alignment cases n ≡ Ok clauses → IsTaken n clauses
  clauses_taken n clauses made = on (nat_le (width_in first n.0 + width_in second n.1) 16) refl made
    where
      inner : (last : Bool) → is_same_node n exits ≡ last → cond last (Ok []) (coupled_at first second alignment cases n) ≡ Ok clauses
          → ((n ≡ exits) × (clauses ≡ [])) ⊎ IsMade n clauses
      inner true is made = inl ((law_of_nodes n exits).0 is, cc)
      inner false is made = inr (coupled_made n clauses made)

      on : (few : Bool) → nat_le (width_in first n.0 + width_in second n.1) 16 ≡ few
          → cond few (cond (is_same_node n exits) (Ok []) (coupled_at first second alignment cases n)) (Err (limit.ManyVariables n)) ≡ Ok clauses
          → IsTaken n clauses
      on true is made = record {
        few = leb-true (width_in first n.0 + width_in second n.1) 16 is;
        either = inner (is_same_node n exits) refl made;
      }
      on false is made = cc

-- All that was made before the nodes were taken, and what was visited then.
pub record IsDone (first second : FlowGraph) (condition : Expression) (alignment : ℕ) (product : Product) : Type 0 where
  pub cases : List (List Row)
  pub cases_are : condition_cases first.params condition ≡ Ok cases
  pub first_starts : List Start
  pub first_are : starts_of first ≡ Ok first_starts
  pub second_starts : List Start
  pub second_are : starts_of second ≡ Ok second_starts
  pub visits : List Visit
  pub visits_are : explored (clauses_at first_starts second_starts alignment cases) (length (all_nodes first_starts second_starts)) (entries ∷ [])
      (without entries (all_nodes first_starts second_starts)) ≡ Ok visits
  pub is : product_of_visits (all_nodes first_starts second_starts) visits ≡ product

-- Where a product is made, all of that was made.
pub product_done : (first second : FlowGraph) (condition : Expression) (alignment : ℕ) (product : Product)
    → product_under first second condition alignment ≡ Ok product → IsDone first second condition alignment product
product_done first second condition alignment product made =
    let one = then_ok limit.AtPre (condition_cases first.params condition) _ product made in
    let two = then_ok at_first (starts_of first) _ product one.2 in
    let three = then_ok at_second (starts_of second) _ product two.2 in
    let four = then_ok (λ (z : ProductLimit). z)
    (explored (clauses_at two.0 three.0 alignment one.0) (length (all_nodes two.0 three.0)) (entries ∷ []) (without entries (all_nodes two.0 three.0)))
    (λ visits. Ok (product_of_visits (all_nodes two.0 three.0) visits)) product three.2 in
    record {
      cases = one.0;
      cases_are = one.1;
      first_starts = two.0;
      first_are = two.1;
      second_starts = three.0;
      second_are = three.1;
      visits = four.0;
      visits_are = four.1;
      is = ok_is {E = ProductLimit} (Ok (product_of_visits (all_nodes two.0 three.0) four.0)) (product_of_visits (all_nodes two.0 three.0) four.0)
          product refl four.2;
    }
