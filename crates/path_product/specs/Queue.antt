-- The queue: the nodes that were met, each once, of which so many at its front were taken.
use Rattle.std.specs.Prelude.{◌≡◌, ◌↔◌, ℕ, ◌+◌, ◌-◌, ◌≤◌, Bool, not, if◌then◌else◌, ◌||◌, List, [], ◌∷◌, ◌++◌, length, take, drop, All, Result, Ok}
use Rattle.c_ast.specs.declared.place.Place.TheVariants as place
use Rattle.lin_terms.specs.declared.row.Row.{Row}
use Rattle.horn_clauses.specs.declared.node.Node.{Node}
use Rattle.horn_clauses.specs.declared.clause.Clause.{Clause}
use Rattle.horn_clauses.specs.declared.clause.Product.{Product}
use Rattle.horn_clauses.specs.Node.{exits, is_same_node}
use Rattle.path_product.specs.declared.starts.Start.{Start}
use Rattle.path_product.specs.declared.limit.ProductLimit.{ProductLimit}
use Rattle.path_product.specs.Fits.{HasStart}
use Rattle.path_product.specs.Product.{is_among, kept, and_then, Visit, explored, nodes_of, all_clauses, all_nodes, clauses_at, product_over}

-- Both lists have the same nodes.
abbrev pub HaveSame : List Node → List Node → Type 0
HaveSame first second = (n : Node) → is_among n first ≡ is_among n second

-- The node joins at the end, unless it was met.
abbrev pub met_with : List Node → Node → List Node
met_with met n = if is_among n met then met else met ++ n ∷ []

-- The ends of the clauses join, one after another.
abbrev pub met_after : List Node → List Clause → List Node
met_after met [] = met
met_after met (clause ∷ clauses) = met_after (met_with met clause.to) clauses

-- The nodes that were not met yet.
abbrev pub unmet : List Node → List Node → List Node
unmet met all = kept (λ n. not (is_among n met)) all

-- Each side has its place, and both are at the entry or neither is.
pub record IsMet (first second : List Start) (n : Node) : Type 0 where
  pub left : HasStart first n.0
  pub right : HasStart second n.1
  pub entries : (n.0 ≡ place.Entry) ↔ (n.1 ≡ place.Entry)

-- Whether the product has the node, where these were met: it was met, or it is that of the two exits.
abbrev pub is_listed : List Node → Node → Bool
is_listed met n = is_among n met || is_same_node n exits

module _ (clauses_from : Node → Result (List Clause) ProductLimit) (all : List Node) where
  -- The product of nodes that were taken with these clauses, and of those that are taken behind them.
  abbrev pub product_with : List Node → List Clause → List Visit → Product
  product_with taken clauses visits = record {
    nodes = kept (is_listed (taken ++ nodes_of visits)) all;
    clauses = clauses ++ all_clauses visits;
  }

  -- What comes of the queue, of which so many nodes were taken, with these clauses.
  abbrev pub product_from : List Node → ℕ → List Clause → Result Product ProductLimit
  product_from met count clauses =
      and_then (λ limit. limit) (explored clauses_from (length all - count) (drop count met) (unmet met all))
      (λ visits. Ok (product_with (take count met) clauses visits))

-- No more nodes were met than there are.
abbrev pub AreFew : List Node → List Node → Type 0
AreFew all met = length met + length (unmet met all) ≤ length all

-- What the work keeps: the nodes that were met are both sides' places, and the product is that of the queue, of which
-- so many were taken with these clauses.
pub record IsUnderWay (first second : List Start) (condition : List (List Row)) (alignment : ℕ) (met : List Node)
    (count : ℕ)
    (clauses : List Clause) : Type 0 where
  pub nodes : All (IsMet first second) met
  pub few : AreFew (all_nodes first second) met
  pub same : product_over first second condition alignment
      ≡ product_from (clauses_at first second alignment condition) (all_nodes first second) met count clauses
