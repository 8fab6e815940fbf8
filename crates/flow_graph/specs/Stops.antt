-- How the marks of a graph are listed, by rising number.
use Rattle.std.specs.Prelude.{◌≡◌, ℕ, ◌<◌, List, map, All, Some, IsSome, slice_get, unwrap_or}
use Rattle.std.specs.List.Sorted.{IsStrictlyIncreasing}
use Rattle.std.specs.Option.{option_map}
use Rattle.std.specs.Ordering.{nat_cmp}
use Rattle.std.specs.BTreeMap.{BTreeMap, get}
use Rattle.c_ast.specs.declared.place.Place.TheVariants as place
use Rattle.c_ast.specs.Tree.{Program}
use Rattle.c_ast.specs.Scope.{IsPlace, AreInScope}
use Rattle.flow_graph.specs.declared.op.Op.{Op}
use Rattle.flow_graph.specs.declared.stop.Stop.{Stop}
use Rattle.flow_graph.specs.Operation.{Mark, operation_of}
use Rattle.flow_graph.specs.FlowGraph.{stop_of}
use Rattle.flow_graph.specs.WellFormed.{IsStop}
use Rattle.flow_graph.specs.Scopes.{Scopes}

-- The node passes the mark, and the other comes next.
abbrev pub Marks : List Op → ℕ → ℕ → ℕ → Type 0
Marks ops node mark next = option_map operation_of (slice_get ops node) ≡ Some (Mark mark next)

-- No mark has two nodes, each is one of the function's, and each of the function's has a node.
pub record MarksOf (f : Program) (ops : List Op) : Type 0 where
  pub places : (node mark next : ℕ) → Marks ops node mark next → IsPlace f (place.Mark mark)
  pub once : (first second mark next after : ℕ)
      → Marks ops first mark next → Marks ops second mark after → first ≡ second
  pub all : (mark : ℕ) → IsPlace f (place.Mark mark) → (node : ℕ) × (next : ℕ) × Marks ops node mark next

-- The map has a node that comes next for the marks of the first `count` nodes, and for no others.
pub record AreNexts (ops : List Op) (count : ℕ) (nexts : BTreeMap ℕ ℕ) : Type 0 where
  pub each : (node mark next : ℕ) → node < count → Marks ops node mark next → IsSome (get nat_cmp nexts mark)
  pub only : (mark next : ℕ) → get nat_cmp nexts mark ≡ Some next
      → (node : ℕ) × (node < count) × Marks ops node mark next

-- The map has a node for each mark of the list.
abbrev pub AreKnown : BTreeMap ℕ ℕ → Scopes → Type 0
AreKnown nexts scopes = All (λ scope. IsSome (get nat_cmp nexts scope.0)) scopes

-- The mark and its variables with the node that comes next.
abbrev pub joined : BTreeMap ℕ ℕ → ℕ × List ℕ → Stop
joined nexts scope = record { mark = scope.0; next = unwrap_or (get nat_cmp nexts scope.0) 0; scope = scope.1 }

-- The stops are those of the marks among the nodes.
pub record AreStops (f : Program) (ops : List Op) (stops : List Stop) : Type 0 where
  pub each : (node mark next : ℕ) → Marks ops node mark next → IsStop stops mark next
  pub only : (mark : ℕ) (stop : Stop) → stop_of stops mark ≡ Some stop
      → (node : ℕ) × Marks ops node mark stop.next × AreInScope f (place.Mark mark) stop.scope
  pub rising : IsStrictlyIncreasing (map (λ stop. stop.mark) stops)
