-- What a product says of two functions. It is a clause of a call that does nothing.
use Rattle.std.specs.Prelude.{◌≡◌, ℕ, Ok}
use Rattle.c_ast.specs.Tree.{Expression}
use Rattle.c_ast.specs.Value.{CanEvaluate}
use Rattle.flow_graph.specs.FlowGraph.{FlowGraph}
use Rattle.flow_graph.specs.WellFormed.{IsFlowGraph}
use Rattle.alignment.specs.Number.{IsAlignment}
use Rattle.horn_clauses.specs.declared.clause.Product.{Product}
use Rattle.path_product.specs.Product.{product_under}
use Rattle.path_product.specs.Agreement.{IsProduct}

-- Where the making of a product meets no limit, its nodes are closed, and its clauses and the moves of both sides
-- agree.
abbrev pub LawOfProducts : Type 0
LawOfProducts = (first second : FlowGraph) (condition : Expression) (alignment : ℕ) (product : Product)
    → IsFlowGraph first → IsFlowGraph second → CanEvaluate first.params condition → IsAlignment alignment
    → product_under first second condition alignment ≡ Ok product
    → IsProduct first second condition alignment product
