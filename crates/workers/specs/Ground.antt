-- What all alignments share: the cases of the condition, and of both functions' places.
use Rattle.std.specs.Prelude.{◌≡◌, ◌⊎◌, ℕ, List, Ok, Err}
use Rattle.c_ast.specs.declared.place.Side.{Side}
use Rattle.c_ast.specs.declared.place.Place.{Place}
use Rattle.c_ast.specs.Tree.{Expression}
use Rattle.c_ast.specs.Comparison.{Comparison, condition_of}
use Rattle.alignment.specs.Number.{IsAlignment}
use Rattle.lin_terms.specs.declared.row.Row.{Row}
use Rattle.flow_graph.specs.FlowGraph.{FlowGraph}
use Rattle.sym_paths.specs.declared.limit.PathLimit.{PathLimit}
use Rattle.sym_paths.specs.Condition.{condition_cases}
use Rattle.path_product.specs.declared.starts.Start.{Start}
use Rattle.path_product.specs.declared.limit.ProductLimit.{ProductLimit}
use Rattle.path_product.specs.declared.limit.ProductLimit.TheVariants as limit
use Rattle.path_product.specs.Starts.{starts_of}
use Rattle.relation.specs.Coupled.{HasLimit}
use Rattle.trace_pair.specs.declared.pairs.Graphs.{Graphs}

-- The cases of the condition, of side A's places and of side B's.
pub record Cases : Type 0 where
  pub condition : List (List Row)
  pub first : List Start
  pub second : List Start

-- These cases.
abbrev pub cases : List (List Row) → List Start → List Start → Cases
cases condition first second = record { condition = condition; first = first; second = second }

-- They are those of the subject, over these graphs.
pub record AreCasesOf (subject : Comparison) (graphs : Graphs) (cases : Cases) : Type 0 where
  pub condition : condition_cases graphs.first.params (condition_of subject) ≡ Ok cases.condition
  pub first : starts_of graphs.first ≡ Ok cases.first
  pub second : starts_of graphs.second ≡ Ok cases.second

-- ---- limits

-- The condition's cases meet this limit of a product; want of memory says nothing.
abbrev pub LimitsCondition : ℕ → Expression → ProductLimit → Type 0
LimitsCondition params condition why =
    (why ≡ limit.Memory) ⊎ (path : PathLimit) × (condition_cases params condition ≡ Err path) × (why ≡ limit.AtPre path)

-- The places of a side's graph meet this limit of a product; want of memory says nothing.
abbrev pub LimitsSide : Side → FlowGraph → ProductLimit → Type 0
LimitsSide side graph why =
    (why ≡ limit.Memory)
    ⊎ (l : Place) × (path : PathLimit) × (starts_of graph ≡ Err (l, path)) × (why ≡ limit.AtPlace side l path)

-- Each alignment has this limit; want of memory says nothing.
abbrev pub LimitsAll : Comparison → ProductLimit → Type 0
LimitsAll subject why =
    (why ≡ limit.Memory) ⊎ ((alignment : ℕ) → IsAlignment alignment → HasLimit subject alignment why)
