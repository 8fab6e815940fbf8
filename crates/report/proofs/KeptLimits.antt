-- The limits of a product can be told: none but the last is want of memory, and those at places are of a side's.
use Rattle.std.proofs.Common.{◌≡◌, ◌≢◌, ℕ, zero, suc, ◌+◌, Bool, true, false, cond, List, [], ◌∷◌, ◌++◌, length, refl, sym, ap, ◌∙◌, subst}
use Rattle.std.specs.Prelude.{nat_le, Result, Ok, Err}
use Rattle.c_ast.specs.declared.place.Place.{Place}
use Rattle.c_ast.specs.Comparison.{Comparison, condition_of}
use Rattle.c_ast.specs.Tree.{Expression}
use Rattle.lin_terms.specs.declared.row.Row.{Row}
use Rattle.flow_graph.specs.FlowGraph.{FlowGraph}
use Rattle.horn_clauses.specs.declared.clause.Clause.{Clause}
use Rattle.horn_clauses.specs.declared.node.Node.{Node}
use Rattle.horn_clauses.specs.Node.{is_same_node, entries, exits}
use Rattle.sym_paths.specs.declared.case.Case.{Case}
use Rattle.sym_paths.specs.declared.limit.PathLimit.{PathLimit}
use Rattle.sym_paths.specs.declared.limit.PathLimit.TheVariants as path
use Rattle.sym_paths.specs.Cases.{cases_of}
use Rattle.sym_paths.specs.Condition.{condition_cases}
use Rattle.path_product.specs.declared.limit.ProductLimit.{ProductLimit}
use Rattle.path_product.specs.declared.limit.ProductLimit.TheVariants as product
use Rattle.path_product.specs.declared.starts.Start.{Start}
use Rattle.path_product.specs.Clauses.{clauses_of}
use Rattle.path_product.specs.Product.{Visit, and_then, at_node, coupled_at, clauses_at, conditions_at, moves_at, fresh, remaining, more_visits, visited, explored, all_nodes, product_of_visits, product_over, at_first, at_second, product_under, without}
use Rattle.path_product.specs.Sides.{side_cases}
use Rattle.path_product.specs.Starts.{with_start, starts_among, starts_of, places_from, width_in}
use Rattle.relation.specs.Coupled.{HasLimit}
use Rattle.report.specs.Fits.{IsKeptLimit}
use Rattle.report.proofs.NoMemory.{cases_keep, conditions_keep}

-- Where the limit is not want of memory, it can be told.
abbrev Keeps : ProductLimit → Type 0
Keeps why = why ≢ product.Memory → IsKeptLimit why

-- All that the work may refuse can be told.
abbrev RefusesKept : {A : Type 0} → Result A ProductLimit → Type 0
RefusesKept r = (why : ProductLimit) → r ≡ Err why → Keeps why

ok_keeps : {A : Type 0} (value : A) → RefusesKept (Ok value)
ok_keeps value why met = cc

err_keeps : {A : Type 0} (own : ProductLimit) → Keeps own → RefusesKept {A = A} (Err own)
err_keeps own keeps why met = let same : own ≡ why = cc in subst Keeps same keeps

and_then_keeps : {A B E : Type 0} (told : E → ProductLimit) (first : Result A E) (others : A → Result B ProductLimit)
    → ((own : E) → first ≡ Err own → Keeps (told own)) → ((value : A) → RefusesKept (others value)) → RefusesKept (and_then told first others)
and_then_keeps told (Ok value) others here there = there value
and_then_keeps told (Err own) others here there = err_keeps (told own) (here own refl)

-- ---- at a node

node_keeps : (n : Node) (why : PathLimit) → Keeps (at_node n why)
node_keeps n path.NonLinear kept = tt
node_keeps n path.WideForm kept = tt
node_keeps n path.ManyUnknowns kept = tt
node_keeps n path.ManyPaths kept = tt
node_keeps n path.Memory kept = absurd (kept refl)

module _ (first second : List Start) (alignment : ℕ) (condition : List (List Row)) where
  coupled_keeps : (n : Node) → RefusesKept (coupled_at first second alignment condition n)
  coupled_keeps n =
      and_then_keeps (at_node n) (side_cases first (moves_at first second alignment condition n).0 n.0) _ (λ own is. node_keeps n own)
      (λ xs. and_then_keeps (at_node n) (side_cases second (moves_at first second alignment condition n).1 n.1) _ (λ own is. node_keeps n own)
      (λ ys. and_then_keeps (at_node n)
      (clauses_of n (width_in first n.0) (width_in second n.1) (conditions_at first second alignment condition n) xs ys) Ok
      (λ own is. node_keeps n own) (λ value. ok_keeps value)))

  clauses_keep : (n : Node) → RefusesKept (clauses_at first second alignment condition n)
  clauses_keep n = few (nat_le (width_in first n.0 + width_in second n.1) 16) (is_same_node n exits)
    where
      few : (narrow last : Bool)
          → RefusesKept (cond narrow (cond last (Ok []) (coupled_at first second alignment condition n)) (Err (product.ManyVariables n)))
      few true true = ok_keeps []
      few true false = coupled_keeps n
      few false last = err_keeps (product.ManyVariables n) (λ kept. tt)

-- ---- the nodes that are taken

more_keep : (visit : Visit) (others : Result (List Visit) ProductLimit) → RefusesKept others → RefusesKept (more_visits visit others)
more_keep visit (Ok visits) keeps = ok_keeps (visit ∷ visits)
more_keep visit (Err own) keeps = err_keeps own (keeps own refl)

visited_keeps : (clauses_from : Node → Result (List Clause) ProductLimit) (n : Node) (clauses : Result (List Clause) ProductLimit)
    (others : List Clause → Result (List Visit) ProductLimit) → RefusesKept clauses → ((made : List Clause) → RefusesKept (others made))
    → RefusesKept (visited clauses_from n clauses others)
visited_keeps clauses_from n (Err own) others here there = err_keeps own (here own refl)
visited_keeps clauses_from n (Ok clauses) others here there = more_keep (record { node = n; clauses = clauses }) (others clauses) (there clauses)

explored_keeps : (clauses_from : Node → Result (List Clause) ProductLimit) → ((n : Node) → RefusesKept (clauses_from n))
    → (count : ℕ) (queue left : List Node) → RefusesKept (explored clauses_from count queue left)
explored_keeps clauses_from each count [] left = ok_keeps []
explored_keeps clauses_from each zero (n ∷ queue) left = ok_keeps []
explored_keeps clauses_from each (suc count) (n ∷ queue) left =
    visited_keeps clauses_from n (clauses_from n) (λ clauses. explored clauses_from count (queue ++ fresh left clauses) (remaining left clauses))
    (each n) (λ clauses. explored_keeps clauses_from each count (queue ++ fresh left clauses) (remaining left clauses))

over_keeps : (first second : List Start) (condition : List (List Row)) (alignment : ℕ)
    → RefusesKept (product_over first second condition alignment)
over_keeps first second condition alignment =
    let all : List Node = all_nodes first second in
    and_then_keeps (λ limit. limit)
    (explored (clauses_at first second alignment condition) (length all) (entries ∷ []) (without entries all))
    (λ visits. Ok (product_of_visits all visits))
    (explored_keeps (clauses_at first second alignment condition) (clauses_keep first second alignment condition) (length all) (entries ∷ [])
    (without entries all))
    (λ visits. ok_keeps (product_of_visits all visits))

-- ---- the segments of a side

-- The limit at a place is not want of memory.
abbrev IsOwn : Result (List Start) (Place × PathLimit) → Type 0
IsOwn r = (refused : Place × PathLimit) → r ≡ Err refused → refused.1 ≢ path.Memory

with_start_own : (graph : FlowGraph) (l : Place) (cases : Result (List Case) PathLimit) (others : Result (List Start) (Place × PathLimit))
    → ((why : PathLimit) → cases ≡ Err why → why ≢ path.Memory) → IsOwn others → IsOwn (with_start graph l cases others)
with_start_own graph l (Err why) others here there refused met =
    let same : refused ≡ (l, why) = cc in λ memory. here why refl (ap (λ (r : Place × PathLimit). r.1) (sym same) ∙ memory)
with_start_own graph l (Ok cases) (Err own) here there refused met = let same : own ≡ refused = cc in there refused (ap Err same)
with_start_own graph l (Ok cases) (Ok starts) here there refused met = cc

starts_own : (graph : FlowGraph) (places : List Place) → IsOwn (starts_among graph places)
starts_own graph [] refused met = cc
starts_own graph (l ∷ places) refused met =
    with_start_own graph l (cases_of graph l) (starts_among graph places) (cases_keep graph l) (starts_own graph places) refused met

-- ---- the product

under_keeps : (first second : FlowGraph) (condition : Expression) (alignment : ℕ) → RefusesKept (product_under first second condition alignment)
under_keeps first second condition alignment =
    and_then_keeps product.AtPre (condition_cases first.params condition) _ (λ own is kept. conditions_keep first.params condition own is)
    (λ cases. and_then_keeps at_first (starts_of first) _
    (λ own is kept. ((λ same. cc), starts_own first (places_from first) own is))
    (λ first_starts. and_then_keeps at_second (starts_of second) _
    (λ own is kept. ((λ same. cc), starts_own second (places_from second) own is))
    (λ second_starts. over_keeps first_starts second_starts cases alignment)))

-- A limit of the product of two functions can be told.
pub limit_is_kept : (subject : Comparison) (alignment : ℕ) (why : ProductLimit) → HasLimit subject alignment why → IsKeptLimit why
limit_is_kept subject alignment why limit =
    under_keeps limit.first limit.second (condition_of subject) alignment why limit.meets limit.kept
