-- The product of two functions under an alignment: its nodes and clauses, or the first limit that is met.
use Rattle.std.specs.Prelude.{ℕ, zero, suc, ◌+◌, nat_le, Bool, true, false, if◌then◌else◌, not, ◌||◌, List, [], ◌∷◌, ◌++◌, map, length, Result, Ok, Err}
use Rattle.c_ast.specs.declared.place.Place.{Place}
use Rattle.c_ast.specs.declared.place.Place.TheVariants as place
use Rattle.c_ast.specs.declared.place.Side.TheVariants as side
use Rattle.c_ast.specs.Tree.{Expression}
use Rattle.lin_terms.specs.declared.row.Row.{Row}
use Rattle.flow_graph.specs.FlowGraph.{FlowGraph}
use Rattle.alignment.specs.Counts.{counts_of, counts_at}
use Rattle.horn_clauses.specs.declared.node.Node.{Node}
use Rattle.horn_clauses.specs.declared.clause.Clause.{Clause}
use Rattle.horn_clauses.specs.declared.clause.Product.{Product}
use Rattle.horn_clauses.specs.Node.{node, entries, exits, is_same_node}
use Rattle.sym_paths.specs.declared.limit.PathLimit.{PathLimit}
use Rattle.sym_paths.specs.declared.limit.PathLimit.TheVariants as path_limit
use Rattle.sym_paths.specs.Condition.{condition_cases}
use Rattle.path_product.specs.declared.starts.Start.{Start}
use Rattle.path_product.specs.declared.limit.ProductLimit.{ProductLimit}
use Rattle.path_product.specs.declared.limit.ProductLimit.TheVariants as limit
use Rattle.path_product.specs.Starts.{starts_of, width_in}
use Rattle.path_product.specs.Sides.{side_cases}
use Rattle.path_product.specs.Clauses.{clauses_of, no_rows}

-- ---- lists of nodes

-- Whether the node is among them.
abbrev pub is_among : Node → List Node → Bool
is_among n [] = false
is_among n (m ∷ nodes) = is_same_node n m || is_among n nodes

-- One more, where it is wanted.
abbrev pub put_if : {A : Type 0} → Bool → A → List A → List A
put_if true x xs = x ∷ xs
put_if false x xs = xs

-- Those that pass the test.
abbrev pub kept : (Node → Bool) → List Node → List Node
kept test [] = []
kept test (n ∷ nodes) = put_if (test n) n (kept test nodes)

-- All but the node.
abbrev pub without : Node → List Node → List Node
without n nodes = kept (λ m. not (is_same_node n m)) nodes

-- ---- one node

-- A limit at a node. No walk over forms meets NonLinear, which comes of products in an expression alone.
abbrev pub at_node : Node → PathLimit → ProductLimit
at_node n path_limit.NonLinear = limit.WideForm n
at_node n path_limit.WideForm = limit.WideForm n
at_node n path_limit.ManyUnknowns = limit.ManyUnknowns n
at_node n path_limit.ManyPaths = limit.ManyPaths n
at_node n path_limit.Memory = limit.Memory

-- The work goes on with what is there, or a limit is told.
abbrev pub and_then : {A B E F : Type 0} → (E → F) → Result A E → (A → Result B F) → Result B F
and_then told (Ok value) others = others value
and_then told (Err limit) others = Err (told limit)

module _ (first second : List Start) (alignment : ℕ) (condition : List (List Row)) where
  -- How many segments the sides take at a node.
  abbrev pub moves_at : Node → ℕ × ℕ
  moves_at n = counts_at (counts_of alignment) n.0 n.1

  -- The condition's cases stand at the two entries.
  abbrev pub conditions_at : Node → List (List Row)
  conditions_at n = if is_same_node n entries then condition else no_rows

  -- Side A's cases are made first, then side B's, then the coupled ones.
  abbrev pub coupled_at : Node → Result (List Clause) ProductLimit
  coupled_at n =
      and_then (at_node n) (side_cases first (moves_at n).0 n.0) (λ xs.
      and_then (at_node n) (side_cases second (moves_at n).1 n.1) (λ ys.
      and_then (at_node n) (clauses_of n (width_in first n.0) (width_in second n.1) (conditions_at n) xs ys) Ok))

  -- The clauses from a node: none from the two exits. A node of more than 16 variables is refused before its cases.
  abbrev pub clauses_at : Node → Result (List Clause) ProductLimit
  clauses_at n =
      if nat_le (width_in first n.0 + width_in second n.1) 16
      then (if is_same_node n exits then Ok [] else coupled_at n)
      else Err (limit.ManyVariables n)

-- ---- the nodes, in the order in which they are taken

-- A node, with its clauses.
pub record Visit : Type 0 where
  pub node : Node
  pub clauses : List Clause

-- The ends of the clauses that were not met yet, each once, in their order.
abbrev pub fresh : List Node → List Clause → List Node
fresh left [] = []
fresh left (clause ∷ clauses) = put_if (is_among clause.to left) clause.to (fresh (without clause.to left) clauses)

-- What is not met then.
abbrev pub remaining : List Node → List Clause → List Node
remaining left [] = left
remaining left (clause ∷ clauses) = remaining (without clause.to left) clauses

-- One more visit, unless a limit is met behind it.
abbrev pub more_visits : Visit → Result (List Visit) ProductLimit → Result (List Visit) ProductLimit
more_visits visit (Ok visits) = Ok (visit ∷ visits)
more_visits visit (Err limit) = Err limit

module _ (clauses_from : Node → Result (List Clause) ProductLimit) where
  -- A node with these clauses is taken, and then what comes behind it.
  abbrev pub visited : Node → Result (List Clause) ProductLimit → (List Clause → Result (List Visit) ProductLimit)
      → Result (List Visit) ProductLimit
  visited n (Err limit) others = Err limit
  visited n (Ok clauses) others = more_visits (record { node = n; clauses = clauses }) (others clauses)

  -- At most so many nodes from the queue, where these are not met yet. New ones join the queue's end.
  abbrev pub explored : ℕ → List Node → List Node → Result (List Visit) ProductLimit
  explored count [] left = Ok []
  explored zero (n ∷ queue) left = Ok []
  explored (suc count) (n ∷ queue) left =
      visited n (clauses_from n) (λ clauses. explored count (queue ++ fresh left clauses) (remaining left clauses))

-- ---- the product

-- The places from which segments lead, and then the exit.
abbrev pub all_places : List Start → List Place
all_places starts = map (λ start. start.place) starts ++ place.Exit ∷ []

-- Each of the first places with each of the second.
abbrev pub pairs : List Place → List Place → List Node
pairs [] second = []
pairs (l ∷ first) second = map (node l) second ++ pairs first second

-- All pairs of places, in the order of nodes.
abbrev pub all_nodes : List Start → List Start → List Node
all_nodes first second = pairs (all_places first) (all_places second)

-- The nodes that are taken.
abbrev pub nodes_of : List Visit → List Node
nodes_of visits = map (λ visit. visit.node) visits

-- Their clauses, in the order in which they are made.
abbrev pub all_clauses : List Visit → List Clause
all_clauses [] = []
all_clauses (visit ∷ visits) = visit.clauses ++ all_clauses visits

-- The nodes that are taken and the two exits, in the order of nodes, with all clauses.
abbrev pub product_of_visits : List Node → List Visit → Product
product_of_visits all visits = record {
  nodes = kept (λ n. is_among n (nodes_of visits) || is_same_node n exits) all;
  clauses = all_clauses visits;
}

-- The product over the cases of all places, and of the condition: nodes are taken from a queue that begins with the two
-- entries.
abbrev pub product_over : List Start → List Start → List (List Row) → ℕ → Result Product ProductLimit
product_over first second condition alignment =
    let all : List Node = all_nodes first second in
    and_then (λ limit. limit)
    (explored (clauses_at first second alignment condition) (length all) (entries ∷ []) (without entries all))
    (λ visits. Ok (product_of_visits all visits))

-- A limit of the segments from a place of side A.
abbrev pub at_first : Place × PathLimit → ProductLimit
at_first refused = limit.AtPlace side.A refused.0 refused.1

-- The same of side B.
abbrev pub at_second : Place × PathLimit → ProductLimit
at_second refused = limit.AtPlace side.B refused.0 refused.1

-- The product of two graphs under a condition on the parameters of side A. The condition is judged first, then all
-- places of side A, then those of side B, and only then nodes are taken.
abbrev pub product_under : FlowGraph → FlowGraph → Expression → ℕ → Result Product ProductLimit
product_under first second condition alignment =
    and_then limit.AtPre (condition_cases first.params condition) (λ cases.
    and_then at_first (starts_of first) (λ first_starts.
    and_then at_second (starts_of second) (λ second_starts.
    product_over first_starts second_starts cases alignment)))
