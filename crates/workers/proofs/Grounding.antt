-- The product of a subject's graphs over cases that were made before, and the limits that come before any node.
use Rattle.std.proofs.Common.{◌≡◌, ℕ, List, ◌∷◌, map, Option, Some, None, refl, sym, ◌∙◌, subst, arith}
use Rattle.std.specs.Prelude.{All, Result, Ok, Err}
use Rattle.c_ast.specs.declared.expr.Expr.{Expr}
use Rattle.c_ast.specs.declared.place.Place.{Place}
use Rattle.c_ast.specs.declared.place.Place.TheVariants as place
use Rattle.c_ast.specs.View.{expression_of}
use Rattle.c_ast.specs.Step.{first_variables}
use Rattle.c_ast.specs.Value.{CanEvaluate}
use Rattle.c_ast.specs.Condition.{given_condition}
use Rattle.c_ast.specs.Comparison.{Comparison, IsComparison, IsCondition, condition_of}
use Rattle.c_ast.proofs.Laws.{over_can_evaluate, parameters_are_below}
use Rattle.alignment.specs.Number.{IsAlignment}
use Rattle.flow_graph.specs.FlowGraph.{FlowGraph, width_at}
use Rattle.flow_graph.specs.WellFormed.{IsFlowGraph}
use Rattle.flow_graph.proofs.Laws.{entry_has_parameters}
use Rattle.horn_clauses.specs.declared.clause.Product.{Product}
use Rattle.sym_paths.specs.declared.limit.PathLimit.{PathLimit}
use Rattle.sym_paths.specs.declared.case.Case.{Case}
use Rattle.sym_paths.specs.Cases.{cases_of}
use Rattle.sym_paths.specs.Fits.{FitsInputs}
use Rattle.sym_paths.proofs.Laws.{conditions_fit}
use Rattle.path_product.specs.declared.starts.Start.{Start}
use Rattle.path_product.specs.Starts.{start, with_start, starts_among, starts_of, width_in}
use Rattle.path_product.specs.Product.{product_over, product_under}
use Rattle.path_product.proofs.Laws.{law_of_products}
use Rattle.relation.specs.Coupled.{IsProductOf}
use Rattle.trace_pair.specs.declared.pairs.Graphs.{Graphs}
use Rattle.trace_pair.specs.Pairs.{AreGraphsOf}
use Rattle.workers.specs.Ground.{Cases, AreCasesOf}

-- ---- the condition

-- The subject's condition can be evaluated on the inputs of side A's graph.
pub can_ask : (subject : Comparison) (graphs : Graphs) → IsComparison subject → AreGraphsOf subject graphs
    → CanEvaluate graphs.first.params (condition_of subject)
can_ask subject graphs formed of = by subject.condition refl
  where
    by : (given : Option Expr) → subject.condition ≡ given → CanEvaluate graphs.first.params (given_condition given)
    by None is = tt
    by (Some condition) is =
        let over : IsCondition subject.first condition = formed.condition condition is in
        subst (λ (n : ℕ). CanEvaluate n (expression_of condition)) (sym of.first.params)
        (over_can_evaluate (expression_of condition) subject.first.params (first_variables subject.first.params)
        (parameters_are_below subject.first.params subject.first.params (omega arith)) over)

-- The entry is the first of a graph's places.
entry_width : (graph : FlowGraph) (starts : List Start) → starts_of graph ≡ Ok starts → width_in starts place.Entry ≡ width_at graph place.Entry
entry_width graph starts made = by (cases_of graph place.Entry) (starts_among graph others) made
  where
    others : List Place
    others = map (λ stop. place.Mark stop.mark) graph.stops

    by : (first : Result (List Case) PathLimit) (more : Result (List Start) (Place × PathLimit)) → with_start graph place.Entry first more ≡ Ok starts
        → width_in starts place.Entry ≡ width_at graph place.Entry
    by (Err why) more is = cc
    by (Ok cases) (Err refused) is = cc
    by (Ok cases) (Ok found) is = let both : start graph place.Entry cases ∷ found ≡ starts = cc in rw (sym both) refl

-- The condition's cases are over the values at side A's entry.
pub condition_fits : (subject : Comparison) (graphs : Graphs) (made : Cases) → IsComparison subject → AreGraphsOf subject graphs
    → IsFlowGraph graphs.first → AreCasesOf subject graphs made → All (FitsInputs (width_in made.first place.Entry)) made.condition
condition_fits subject graphs made formed of is are =
    subst (λ (n : ℕ). All (FitsInputs n) made.condition)
    (sym (entry_width graphs.first made.first are.first ∙ entry_has_parameters graphs.first is))
    (conditions_fit graphs.first.params (condition_of subject) (can_ask subject graphs formed of) made.condition are.condition)

module _ (subject : Comparison) (graphs : Graphs) (of : AreGraphsOf subject graphs) where
  -- ---- the product

  -- Over the cases there is the product of the graphs.
  pub product_is : (made : Cases) → AreCasesOf subject graphs made → (alignment : ℕ)
      → product_under graphs.first graphs.second (condition_of subject) alignment
      ≡ product_over made.first made.second made.condition alignment
  product_is made are alignment = rw (are.condition, are.first, are.second) refl

  pub is_product_of : (made : Cases) → AreCasesOf subject graphs made → (alignment : ℕ) (product : Product) → IsComparison subject
      → IsFlowGraph graphs.first → IsFlowGraph graphs.second → IsAlignment alignment
      → product_over made.first made.second made.condition alignment ≡ Ok product
      → IsProductOf subject alignment graphs.first graphs.second product
  is_product_of made are alignment product formed first second named is =
      let under = product_is made are alignment ∙ is in
      record {
        graphs = record { first_graph = of.first; second_graph = of.second };
        made = under;
        is = law_of_products graphs.first graphs.second (condition_of subject) alignment product first second
            (can_ask subject graphs formed of) named under;
      }
