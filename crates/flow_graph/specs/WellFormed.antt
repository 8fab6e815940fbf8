-- What holds of every flow graph.
use Rattle.std.specs.Prelude.{◌≡◌, ℕ, ◌<◌, ◌≤◌, ◌^◌, ◌⊎◌, List, length, map, All, Option, Some}
use Rattle.std.specs.List.Sorted.{IsStrictlyIncreasing}
use Rattle.c_ast.specs.Value.{CanEvaluate}
use Rattle.flow_graph.specs.declared.stop.Stop.{Stop}
use Rattle.flow_graph.specs.Operation.{Operation, Set, Branch, Mark, Return}
use Rattle.flow_graph.specs.FlowGraph.{FlowGraph, operation_at, stop_of}

-- The operation passes a mark.
abbrev pub IsMark : Option Operation → Type 0
IsMark (Some (Mark mark next)) = Unit {0}
IsMark _ = ⊥

-- An edge leads to one of `count` nodes: to a mark, or to a node with a lower number. So each cycle passes a mark, and
-- between two marks a run is at ever lower nodes.
abbrev pub Leads : (ℕ → Option Operation) → ℕ → ℕ → ℕ → Type 0
Leads at count node next = (next < count) × ((next < node) ⊎ IsMark (at next))

-- The operation of the node is over these numbers of nodes and variables: it sets one of these variables, and what it
-- evaluates can be evaluated over them, which is to say that it reads no others and that each divisor is a constant of
-- at least 1. Its edges lead down or to marks; one out of a mark may lead anywhere.
abbrev pub Fits : (ℕ → Option Operation) → ℕ → ℕ → ℕ → Operation → Type 0
Fits at count vars node (Set x e next) = (x < vars) × CanEvaluate vars e × Leads at count node next
Fits at count vars node (Branch e first second) =
    CanEvaluate vars e × Leads at count node first × Leads at count node second
Fits at count vars node (Mark mark next) = next < count
Fits at count vars node (Return e) = CanEvaluate vars e

-- The graph knows the mark, and the node that comes next.
pub record IsStop (stops : List Stop) (mark next : ℕ) : Type 0 where
  pub stop : Stop
  pub found : stop_of stops mark ≡ Some stop
  pub next_is : stop.next ≡ next

-- The graph has at most 64 variables, the parameters among them, and fewer than 2^32 nodes, each of which fits. Its
-- marks are listed by rising number, each with the node that comes next and with variables of the graph, which rise as
-- well.
pub record IsFlowGraph (graph : FlowGraph) : Type 0 where
  pub few : graph.vars ≤ 64
  pub parameters : graph.params ≤ graph.vars
  pub count : length graph.ops < 2 ^ 32
  pub entry : graph.entry < length graph.ops
  pub fit : (node : ℕ) (op : Operation) → operation_at graph node ≡ Some op
      → Fits (operation_at graph) (length graph.ops) graph.vars node op
  pub marks : (node mark next : ℕ) → operation_at graph node ≡ Some (Mark mark next) → IsStop graph.stops mark next
  pub rising : IsStrictlyIncreasing (map (λ stop. stop.mark) graph.stops)
  pub afters : (mark : ℕ) (stop : Stop) → stop_of graph.stops mark ≡ Some stop
      → (stop.next < length graph.ops) × All (λ x. x < graph.vars) stop.scope × IsStrictlyIncreasing stop.scope
