-- A comparison has one product under an alignment, since a function has one graph.
use Rattle.std.proofs.Common.{◌≡◌, ℕ, Ok, Err, sym, ap, ◌∙◌}
use Rattle.c_ast.specs.Comparison.{Comparison, condition_of}
use Rattle.c_ast.specs.Function.{program_of}
use Rattle.horn_clauses.specs.declared.family.Family.{Family}
use Rattle.flow_graph.specs.FlowGraph.{FlowGraph}
use Rattle.flow_graph.proofs.Laws.{graph_is_one}
use Rattle.path_product.specs.declared.limit.ProductLimit.{ProductLimit}
use Rattle.path_product.specs.Product.{product_under}
use Rattle.relation.specs.Coupled.{AreGraphs, IsLinearUnder, HasLimit}

module _ (subject : Comparison) (alignment : ℕ) where
  -- What the making of the product comes to is the same for all graphs of both functions.
  made_once : (first second other another : FlowGraph) → AreGraphs subject first second → AreGraphs subject other another
      → product_under first second (condition_of subject) alignment ≡ product_under other another (condition_of subject) alignment
  made_once first second other another are others =
      let left = graph_is_one (program_of subject.first) first other are.first_graph others.first_graph in
      let right = graph_is_one (program_of subject.second) second another are.second_graph others.second_graph in
      ap (λ (graph : FlowGraph). product_under graph second (condition_of subject) alignment) left
      ∙ ap (λ (graph : FlowGraph). product_under other graph (condition_of subject) alignment) right

  -- Where some family is linear, the product meets no limit.
  pub linear_has_no_limit : (family : Family) (limit : ProductLimit) → IsLinearUnder subject alignment family → HasLimit subject alignment limit → ⊥
  linear_has_no_limit family limit linear limited =
      let same = made_once linear.first linear.second limited.first limited.second linear.is_product.graphs limited.graphs in
      let clash : Ok linear.product ≡ Err limit = sym linear.is_product.made ∙ same ∙ limited.meets in
      cc
