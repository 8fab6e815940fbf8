-- The search begins with the walk from its place, over few columns.
use Rattle.std.proofs.Common.{◌≡◌, ℕ, suc, ◌+◌, ◌-◌, ◌<◌, ◌≤◌, List, [], ◌∷◌, ◌++◌, length, map, All, Option, Some, None, IsSome, refl, sym, ap, subst, ◌∙◌, append-nil, true≢false, arith}
use Rattle.std.specs.Prelude.{Result, Ok, Err, slice_index}
use Rattle.std.proofs.lemmas.List.Elements.{All-head, All-tail}
use Rattle.std.specs.List.Sorted.{IsStrictlyIncreasing}
use Rattle.c_ast.specs.declared.place.Place.{Place}
use Rattle.c_ast.specs.declared.place.Place.TheVariants as place
use Rattle.flow_graph.specs.declared.stop.Stop.{Stop}
use Rattle.flow_graph.specs.FlowGraph.{FlowGraph, stop_of, scope_of_stop, node_after, variables_at, GoesOnAt}
use Rattle.flow_graph.specs.WellFormed.{IsFlowGraph}
use Rattle.flow_graph.proofs.Laws.{entry_has_parameters}
use Rattle.sym_paths.specs.declared.limit.PathLimit.{PathLimit}
use Rattle.sym_paths.specs.declared.case.Case.{Case}
use Rattle.sym_paths.specs.declared.search.Waiting.{Waiting}
use Rattle.sym_paths.specs.declared.task.Entry.{Entry}
use Rattle.sym_paths.specs.Walk.{Arrives, Stops, Walk, onward, collect, walk_behind}
use Rattle.sym_paths.specs.Nodes.{End, walk_from}
use Rattle.sym_paths.specs.Machine.{Move, resume, entered}
use Rattle.sym_paths.specs.Cases.{room_for, start_forms, start_state, all_completed, cases_of}
use Rattle.sym_paths.specs.Arrivals.{fresh, entry_of, EntryIsSound}
use Rattle.sym_paths.specs.Waiting.{waiting, walk_of, behind_made, searched_from, CanGoOn}
use Rattle.sym_paths.proofs.Searching.{from_node}
use Rattle.sym_paths.proofs.Waiting.{walk_waited, kept_waited, sound_waited}

-- ---- the first moves

pub none_in_front : {A : Type 0} (walk : Walk A) → walk_behind [] walk ≡ walk
none_in_front [] = refl
none_in_front {A} (Arrives path ∷ walk) = ap (λ (w : Walk A). Arrives path ∷ w) (none_in_front walk)
none_in_front {A} (Stops why ∷ walk) = ap (λ (w : Walk A). Stops why ∷ w) (none_in_front walk)

pub behind_none : (r : Result (List Case) PathLimit) → behind_made [] r ≡ r
behind_none (Ok cases) = refl
behind_none (Err why) = refl

module _ (room : ℕ) (graph : FlowGraph) (moves : List Entry) (work : List Waiting) (waits : work ≡ map (waiting 0) moves ++ []) where
  pub begins_can : All (EntryIsSound room graph) moves → CanGoOn room graph [] work []
  begins_can sound = subst (λ (w : List Waiting). CanGoOn room graph [] w []) (sym waits) (record {
    kept = kept_waited [] moves [] tt;
    sound = sound_waited room graph 0 moves [] sound tt;
    few = omega arith;
  })

  pub begins_same : (l : Place) → room ≡ room_for (length (variables_at graph l))
      → map entry_of moves ≡ entered room graph (suc (length graph.ops)) (node_after graph l) (start_forms room (variables_at graph l) graph.vars)
      (fresh (length (variables_at graph l)))
      → searched_from room graph [] work [] ≡ cases_of graph l
  begins_same l room_is are =
      let width : ℕ = length (variables_at graph l) in
      let walked : walk_of [] work ≡ entered room graph (suc (length graph.ops)) (node_after graph l) (start_forms room (variables_at graph l) graph.vars)
      (fresh (length (variables_at graph l))) =
      ap (walk_of []) waits ∙ walk_waited [] moves [] ∙ append-nil (walk_behind [] (map entry_of moves)) ∙ none_in_front (map entry_of moves) ∙ are in
      behind_none (all_completed (collect (1024 - length {A = Case} []) (onward (walk_of [] work) (resume room graph))))
      ∙ ap (λ (w : Walk Move). all_completed (collect 1024 (onward w (resume room graph)))) walked
      ∙ ap (λ (w : Walk End). all_completed (collect 1024 w)) (sym (from_node room graph (suc (length graph.ops)) (node_after graph l)
      (start_forms room (variables_at graph l) graph.vars) (start_state (length (variables_at graph l)))))
      ∙ ap (λ (n : ℕ). all_completed (collect 1024 (walk_from n graph (suc (length graph.ops)) (node_after graph l)
      (start_forms n (variables_at graph l) graph.vars) (start_state (length (variables_at graph l)))))) room_is

-- ---- at most 64 variables are in scope at a place

next_index : (k : ℕ) → suc (k + 1) ≡ suc k + 1
next_index k = omega arith

others_rise : (x : ℕ) (xs : List ℕ) → IsStrictlyIncreasing (x ∷ xs) → IsStrictlyIncreasing xs
others_rise x xs rising = λ k within. subst (λ (i : ℕ). slice_index xs k < slice_index (x ∷ xs) i) (sym (next_index k)) (rising (suc k) (omega arith))

-- numbers below n that rise from x on are at most n - x
rising_from : (n x : ℕ) (xs : List ℕ) → IsStrictlyIncreasing (x ∷ xs) → All (λ y. y < n) (x ∷ xs) → x + length (x ∷ xs) ≤ n
rising_from n x [] rising below = omega (arith, All-head (λ (y : ℕ). y < n) x [] below)
rising_from n x (y ∷ ys) rising below =
    let first : x < y = rising 0 (omega arith) in
    let others = rising_from n y ys (others_rise x (y ∷ ys) rising) (All-tail (λ (z : ℕ). z < n) x (y ∷ ys) below) in
    omega (arith, first, others)

as_many : (n : ℕ) (xs : List ℕ) → IsStrictlyIncreasing xs → All (λ y. y < n) xs → length xs ≤ n
as_many n [] rising below = omega arith
as_many n (x ∷ xs) rising below = let all = rising_from n x xs rising below in omega (arith, all)

pub few_in_scope : (graph : FlowGraph) → IsFlowGraph graph → (l : Place) → GoesOnAt graph l → length (variables_at graph l) ≤ 64
few_in_scope graph is place.Entry goes =
    let width : length (variables_at graph place.Entry) ≡ graph.params = entry_has_parameters graph is in
    let few = is.few in let parameters = is.parameters in omega (arith, width, few, parameters)
few_in_scope graph is (place.Mark mark) goes = on (stop_of graph.stops mark) refl goes
  where
    on : (o : Option Stop) → stop_of graph.stops mark ≡ o → IsSome o → length (scope_of_stop o) ≤ 64
    on None found some = absurd (true≢false (sym some))
    on (Some stop) found some =
        let after = is.afters mark stop found in
        let all = as_many graph.vars stop.scope after.2 after.1 in let few = is.few in omega (arith, all, few)
few_in_scope graph is place.Exit goes = absurd goes
