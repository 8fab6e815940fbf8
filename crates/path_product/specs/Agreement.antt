-- What a product owes: a closed set of nodes that are reached, clauses that fit them, and that clauses and the moves of
-- both sides agree.
use Rattle.std.specs.Prelude.{◌≡◌, ◌≢◌, ◌↔◌, ◌≤◌, ◌+◌, ℕ, ℤ, List, [], ◌∷◌, ◌++◌, length, All, Contains}
use Rattle.c_ast.specs.Tree.{Expression}
use Rattle.c_ast.specs.Condition.{Meets}
use Rattle.flow_graph.specs.FlowGraph.{FlowGraph, width_at, HasPlace}
use Rattle.flow_graph.specs.Run.{IsGraphSegment}
use Rattle.alignment.specs.Moves.{Moves}
use Rattle.horn_clauses.specs.declared.node.Node.{Node}
use Rattle.horn_clauses.specs.declared.clause.Clause.{Clause}
use Rattle.horn_clauses.specs.declared.clause.Product.{Product}
use Rattle.horn_clauses.specs.Node.{entries, exits, StandsBefore}
use Rattle.horn_clauses.specs.Clause.{FitsClause, LeadsTo}
use Rattle.sym_paths.specs.Points.{SomeOf}

-- Each node comes before the next one.
abbrev pub AreOrdered : List Node → Type 0
AreOrdered [] = Unit {0}
AreOrdered (n ∷ []) = Unit {0}
AreOrdered (n ∷ m ∷ nodes) = StandsBefore n m × AreOrdered (m ∷ nodes)

-- The clauses lead to the node from the two entries, one after another.
pub data IsReached (clauses : List Clause) : Node → Type 0 where
  Begins : IsReached clauses entries
  Goes : (clause : Clause) → Contains clauses clause → IsReached clauses clause.from → IsReached clauses clause.to

-- The nodes are those that clauses lead to from the two entries, and the two exits, in the order of nodes. Each clause
-- leads from one of them, which is not the two exits, to one of them.
pub record IsClosed (product : Product) : Type 0 where
  pub begins : Contains product.nodes entries
  pub ends : Contains product.nodes exits
  pub from : All (λ clause. Contains product.nodes clause.from × (clause.from ≢ exits)) product.clauses
  pub to : All (λ clause. Contains product.nodes clause.to) product.clauses
  pub reached : (n : Node) → Contains product.nodes n → n ≢ exits → IsReached product.clauses n
  pub ordered : AreOrdered product.nodes

-- Both places are the graphs', and the node has at most 16 variables.
pub record HasNode (first second : FlowGraph) (n : Node) : Type 0 where
  pub left : HasPlace first n.0
  pub right : HasPlace second n.1
  pub few : width_at first n.0 + width_at second n.1 ≤ 16

-- The clause is over the variables at its start, and has a form for each value at its end.
abbrev pub FitsItsNodes : FlowGraph → FlowGraph → Clause → Type 0
FitsItsNodes first second clause =
    FitsClause (width_at first clause.from.0 + width_at second clause.from.1)
    (width_at first clause.to.0 + width_at second clause.to.1) clause

-- From these values at a node both sides move to another, with those values there. From the two entries they do where
-- side A's values, the inputs, meet the condition.
pub record Move (first second : FlowGraph) (condition : Expression) (alignment : ℕ) (n : Node) (d e : List ℤ)
    (to : Node) (after : List ℤ) : Type 0 where
  pub meets : n ≡ entries → Meets condition d
  pub left : List ℤ
  pub right : List ℤ
  pub moves : Moves (IsGraphSegment first) (IsGraphSegment second) alignment n.0 n.1 d e to.0 to.1 left right
  pub both : after ≡ left ++ right

-- Some clause from the one node leads from these values to the other, with those values there.
abbrev pub SomeClause : Product → Node → List ℤ → Node → List ℤ → Type 0
SomeClause product n values to after =
    SomeOf (λ clause. (clause.from ≡ n) × (clause.to ≡ to) × LeadsTo values after clause) product.clauses

-- At each node but the two exits, and at all values there, both sides move exactly where some clause leads.
abbrev pub Agrees : FlowGraph → FlowGraph → Expression → ℕ → Product → Type 0
Agrees first second condition alignment product =
    (n : Node) → Contains product.nodes n → n ≢ exits → (d e : List ℤ)
    → length d ≡ width_at first n.0 → length e ≡ width_at second n.1 → (to : Node) (after : List ℤ)
    → Move first second condition alignment n d e to after ↔ SomeClause product n (d ++ e) to after

-- What the product of two graphs under a condition owes.
pub record IsProduct (first second : FlowGraph) (condition : Expression) (alignment : ℕ)
    (product : Product) : Type 0 where
  pub closed : IsClosed product
  pub nodes : All (HasNode first second) product.nodes
  pub clauses : All (FitsItsNodes first second) product.clauses
  pub agrees : Agrees first second condition alignment product
