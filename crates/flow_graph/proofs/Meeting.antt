-- The places that a graph's runs meet, and the values there.
use Rattle.std.proofs.lemmas.Option.{slice_get-get_or}
use Rattle.std.proofs.lemmas.List.{length-map}
use Rattle.std.proofs.Common.{◌≡◌, ℕ, zero, suc, ◌<◌, ◌≤◌, cond, Bool, true, false, ◌⊎◌, inl, inr, List, [], ◌∷◌, length, map, get_or, Option, Some, None, IsSome, ℤ, refl, sym, ap, ◌∙◌, subst, arith}
use Rattle.std.specs.Prelude.{slice_get, slice_index_or}
use Rattle.std.specs.List.Sorted.{IsStrictlyIncreasing}
use Rattle.std.specs.Option.{option_map}
use Rattle.c_ast.specs.declared.place.Place.{Place}
use Rattle.c_ast.specs.declared.place.Place.TheVariants as place
use Rattle.c_ast.specs.Value.{eval, is_nonzero}
use Rattle.c_ast.specs.Step.{first_variables, spread}
use Rattle.c_ast.specs.Returns.{always}
use Rattle.c_ast.specs.Segment.{at_mark, at_exit}
use Rattle.flow_graph.specs.declared.op.Op.{Op}
use Rattle.flow_graph.specs.declared.stop.Stop.{Stop}
use Rattle.flow_graph.specs.Operation.{Operation, Set, Branch, Mark, Return, operation_of}
use Rattle.flow_graph.specs.FlowGraph.{FlowGraph, operation_at, stop_of, scope_of_stop, node_after, variables_at, width_at, GoesOnAt, HasPlace}
use Rattle.flow_graph.specs.Run.{values_with, values_of, seen_at, seen_from}
use Rattle.flow_graph.specs.WellFormed.{IsMark, IsFlowGraph}
use Rattle.flow_graph.specs.Laws.{GraphSegmentIsDetermined, GraphSegmentExists, GraphSegmentFits, EntryHasParameters, MapOfListed}
use Rattle.flow_graph.proofs.Rising.{none_increase, as_many_below, listed_rise}
use Rattle.flow_graph.proofs.Listing.{parameters_counted}

abbrev Met : Type 0
Met = Place × List ℤ

-- ---- one place at most

module _ (graph : FlowGraph) where
  abbrev met : ℕ → ℕ → ℕ → List ℤ → Option Met
  met = seen_from always None at_mark at_exit graph

  abbrev met_at : ℕ → ℕ → Option Operation → List ℤ → Option Met
  met_at n = seen_at always None at_mark at_exit graph (met n)

  met_once : (n k marks node : ℕ) (env : List ℤ) (r s : Met) → met n marks node env ≡ Some r → met k marks node env ≡ Some s → r ≡ s
  met_once zero k marks node env r s p q = cc
  met_once (suc n) zero marks node env r s p q = cc
  met_once (suc n) (suc k) marks node env r s p q = at_once (λ next env. met_once n k marks next env r s) (operation_at graph node) p q
    where
      at_once : ((next : ℕ) (env : List ℤ) → met n marks next env ≡ Some r → met k marks next env ≡ Some s → r ≡ s) → (o : Option Operation)
          → met_at n marks o env ≡ Some r → met_at k marks o env ≡ Some s → r ≡ s
      at_once go None p q = cc
      at_once go (Some (Set x e next)) p q = go next _ p q
      at_once go (Some (Branch e first second)) p q = go (cond (is_nonzero (eval e env)) first second) env p q
      at_once go (Some (Mark mark next)) p q = let e : Some r ≡ Some s = sym p ∙ q in cc
      at_once go (Some (Return e)) p q = let e : Some r ≡ Some s = sym p ∙ q in cc

pub graph_segment_is_determined : GraphSegmentIsDetermined
graph_segment_is_determined graph l e a b c d first second =
    let same : (a, c) ≡ (b, d) = met_once graph first.steps second.steps 0 (node_after graph l) _ (a, c) (b, d) first.met second.met in
    (ap (λ (m : Met). m.0) same, ap (λ (m : Met). m.1) same)

-- ---- some place

record Meets (graph : FlowGraph) (node : ℕ) (env : List ℤ) : Type 0 where
  steps : ℕ
  at : Met
  is : met graph steps 0 node env ≡ Some at

module _ (graph : FlowGraph) (is : IsFlowGraph graph) where
  one_step : (node : ℕ) (env : List ℤ) (o : Option Operation) → operation_at graph node ≡ o → (n : ℕ) (r : Met) → met_at graph n 0 o env ≡ Some r
      → Meets graph node env
  one_step node env o o_is n r met_is = record { steps = suc n; at = r; is = ap (λ (z : Option Operation). met_at graph n 0 z env) o_is ∙ met_is }

  mark_meets : (node : ℕ) (env : List ℤ) (o : Option Operation) → operation_at graph node ≡ o → IsMark o → Meets graph node env
  mark_meets node env None o_is mark = absurd mark
  mark_meets node env (Some (Set x e next)) o_is mark = absurd mark
  mark_meets node env (Some (Branch e first second)) o_is mark = absurd mark
  mark_meets node env (Some (Mark k next)) o_is mark = one_step node env (Some (Mark k next))
      o_is 0 (place.Mark k, values_of (variables_at graph (place.Mark k)) env) refl
  mark_meets node env (Some (Return e)) o_is mark = absurd mark

  -- a node of the graph has an operation
  operates : (node : ℕ) → node < length graph.ops → (o : Operation) × (operation_at graph node ≡ Some o)
  operates node within = on graph.ops within
    where
      on : (ops : List Op) → node < length ops → (o : Operation) × (option_map operation_of (slice_get ops node) ≡ Some o)
      on [] within = absurd (omega arith)
      on (op ∷ ops) within = (operation_of (get_or (op ∷ ops) node op), ap (option_map operation_of) (slice_get-get_or (op ∷ ops) node op within))

  -- between two marks a run is at ever lower nodes
  meets : (fuel node : ℕ) (env : List ℤ) → node < fuel → node < length graph.ops → Meets graph node env
  meets zero node env below within = absurd (omega arith)
  meets (suc fuel) node env below within = on (λ next env lower. meets fuel next env (omega (arith, lower, below))) (operates node within)
    where
      next_meets : ((next : ℕ) (env : List ℤ) → next < node → next < length graph.ops → Meets graph next env) → (next : ℕ) (env : List ℤ) → (next < node)
          ⊎ IsMark (operation_at graph next) → next < length graph.ops → Meets graph next env
      next_meets go next env (inl lower) inside = go next env lower inside
      next_meets go next env (inr mark) inside = mark_meets next env (operation_at graph next) refl mark

      goes : (b : Bool) (first second : ℕ) (env : List ℤ) → Meets graph first env → Meets graph second env → Meets graph (cond b first second) env
      goes true first second env p q = p
      goes false first second env p q = q

      on : ((next : ℕ) (env : List ℤ) → next < node → next < length graph.ops → Meets graph next env) → ((o : Operation) × (operation_at graph node ≡ Some o))
          → Meets graph node env
      on go (Set x e next, o_is) =
          let fits = is.fit node (Set x e next) o_is in
          let m = next_meets go next _ fits.2.1 fits.2.0 in
          one_step node env (Some (Set x e next)) o_is m.steps m.at m.is
      on go (Branch e first second, o_is) =
          let fits = is.fit node (Branch e first second) o_is in
          let m = goes (is_nonzero (eval e env)) first second env (next_meets go first env fits.1.1 fits.1.0) (next_meets go second env fits.2.1 fits.2.0) in
          one_step node env (Some (Branch e first second)) o_is m.steps m.at m.is
      on go (Mark k next, o_is) = mark_meets node env (Some (Mark k next)) o_is tt
      on go (Return e, o_is) = one_step node env (Some (Return e)) o_is 0 (at_exit (eval e env)) refl

  after_within : (l : Place) → GoesOnAt graph l → node_after graph l < length graph.ops
  after_within place.Entry goes = is.entry
  after_within (place.Mark mark) goes = on (stop_of graph.stops mark) refl goes
    where
      on : (o : Option Stop) → stop_of graph.stops mark ≡ o → IsSome o → node_after graph (place.Mark mark) < length graph.ops
      on None found some = absurd cc
      on (Some stop) found some = rw found ((is.afters mark stop found).0)
  after_within place.Exit goes = absurd goes

pub graph_segment_exists : GraphSegmentExists
graph_segment_exists graph is l e goes =
    let within = after_within graph is l goes in
    let m = meets graph is (suc (node_after graph l)) (node_after graph l) (spread (variables_at graph l) graph.vars e) (omega arith) within in
    (m.at.0, m.at.1, record { from = goes; steps = m.steps; met = m.is })

-- ---- the values that are met

module _ (graph : FlowGraph) (is : IsFlowGraph graph) where
  abbrev FitsMet : Met → Type 0
  FitsMet r = HasPlace graph r.0 × (length r.1 ≡ width_at graph r.0)

  met_fits : (n marks node : ℕ) (env : List ℤ) (r : Met) → met graph n marks node env ≡ Some r → FitsMet r
  met_fits zero marks node env r p = cc
  met_fits (suc n) marks node env r p = on (λ next env. met_fits n marks next env r) (operation_at graph node) refl p
    where
      on : ((next : ℕ) (env : List ℤ) → met graph n marks next env ≡ Some r → FitsMet r) → (o : Option Operation) → operation_at graph node ≡ o
          → met_at graph n marks o env ≡ Some r → FitsMet r
      on go None o_is p = cc
      on go (Some (Set x e next)) o_is p = go next _ p
      on go (Some (Branch e first second)) o_is p = go (cond (is_nonzero (eval e env)) first second) env p
      on go (Some (Mark mark next)) o_is p =
          let same : (place.Mark mark, values_of (variables_at graph (place.Mark mark)) env)
          ≡ r = (let e : Some (place.Mark mark, values_of (variables_at graph (place.Mark mark)) env) ≡ Some r = p in cc) in
          let stop = is.marks node mark next o_is in
          let has : IsSome (stop_of graph.stops mark) = subst IsSome (sym stop.found) refl in
          subst FitsMet same (has, length-map (variables_at graph (place.Mark mark)) _)
      on go (Some (Return e)) o_is p =
          let same : at_exit (eval e env) ≡ r = (let e : Some (at_exit (eval e env)) ≡ Some r = p in cc) in
          subst FitsMet same (tt, refl)

pub graph_segment_fits : GraphSegmentFits
graph_segment_fits graph is l e l' e' segment = met_fits graph is segment.steps 0 (node_after graph l) _ (l', e') segment.met

pub entry_has_parameters : EntryHasParameters
entry_has_parameters graph is = parameters_counted graph.params graph.vars is.parameters

-- ---- the variables that are listed

pub variables_rise : (graph : FlowGraph) → IsFlowGraph graph → (l : Place) → IsStrictlyIncreasing (variables_at graph l)
variables_rise graph is place.Entry = listed_rise (first_variables graph.params) graph.vars
variables_rise graph is (place.Mark mark) = on (stop_of graph.stops mark) refl
  where
    on : (o : Option Stop) → stop_of graph.stops mark ≡ o → IsStrictlyIncreasing (scope_of_stop o)
    on None found = none_increase
    on (Some stop) found = (is.afters mark stop found).2
variables_rise graph is place.Exit = none_increase

pub few_in_scope : (graph : FlowGraph) → IsFlowGraph graph → (mark : ℕ) (stop : Stop) → stop_of graph.stops mark ≡ Some stop → length stop.scope ≤ 64
few_in_scope graph is mark stop found =
    let after = is.afters mark stop found in
    let few = as_many_below graph.vars stop.scope after.2 after.1 in
    omega (arith, few, is.few)

value_mapped : {A B : Type 0} (g : A → B) (absent : A) (env : List A) (x : ℕ) → g (slice_index_or env x absent) ≡ slice_index_or (map g env) x (g absent)
value_mapped g absent [] x = refl
value_mapped g absent (value ∷ env) zero = refl
value_mapped g absent (value ∷ env) (suc x) = value_mapped g absent env x

pub map_of_listed : (A B : Type 0) → MapOfListed A B
map_of_listed A B g absent [] env = refl
map_of_listed A B g absent (x ∷ variables) env =
    ap (λ (z : B). z ∷ map g (values_with absent variables env)) (value_mapped g absent env x)
    ∙ ap (λ (zs : List B). slice_index_or (map g env) x (g absent) ∷ zs) (map_of_listed A B g absent variables env)
