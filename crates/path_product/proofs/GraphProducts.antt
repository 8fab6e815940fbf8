-- The condition's cases, where the product of two graphs is made.
use Rattle.std.proofs.Common.{◌≡◌, ◌∙◌, ℕ, List, All, sym, subst}
use Rattle.std.specs.Prelude.{Ok}
use Rattle.c_ast.specs.declared.place.Place.TheVariants as place
use Rattle.c_ast.specs.Tree.{Expression}
use Rattle.c_ast.specs.Value.{CanEvaluate}
use Rattle.lin_terms.specs.declared.row.Row.{Row}
use Rattle.flow_graph.specs.FlowGraph.{FlowGraph}
use Rattle.flow_graph.specs.WellFormed.{IsFlowGraph}
use Rattle.flow_graph.proofs.Laws.{entry_has_parameters}
use Rattle.sym_paths.specs.Condition.{condition_cases}
use Rattle.sym_paths.specs.Fits.{FitsInputs}
use Rattle.sym_paths.proofs.Laws.{conditions_fit}
use Rattle.path_product.specs.declared.starts.Start.{Start}
use Rattle.path_product.specs.Starts.{starts_of, width_in}
use Rattle.path_product.proofs.StartsFit.{widths_are}

-- They are over side A's variables at the entry.
pub condition_fits : (graph : FlowGraph) → IsFlowGraph graph → (condition : Expression) → CanEvaluate graph.params condition
    → (cases : List (List Row)) → condition_cases graph.params condition ≡ Ok cases → (starts : List Start) → starts_of graph ≡ Ok starts
    → All (FitsInputs (width_in starts place.Entry)) cases
condition_fits graph is condition can cases cases_are starts starts_are =
    subst (λ (n : ℕ). All (FitsInputs n) cases) (sym (widths_are graph starts starts_are place.Entry tt ∙ entry_has_parameters graph is))
    (conditions_fit graph.params condition can cases cases_are)
