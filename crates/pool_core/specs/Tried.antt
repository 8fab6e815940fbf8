-- When a reason is true of an alignment that was tried, with the candidates of some pairs (Houdini: Flanagan and Leino,
-- "Houdini, an annotation assistant for ESC/Java").
use Rattle.std.specs.Prelude.{◌≡◌, ℕ, List, map}
use Rattle.c_ast.specs.declared.trace.Pair.{Pair}
use Rattle.c_ast.specs.Comparison.{Comparison}
use Rattle.elimination.specs.declared.answer.Limit.{Limit}
use Rattle.horn_clauses.specs.declared.clause.Product.{Product}
use Rattle.horn_clauses.specs.declared.family.Family.{Family}
use Rattle.flow_graph.specs.FlowGraph.{FlowGraph}
use Rattle.relation.specs.Coupled.{IsProductOf, IsLinearUnder, HasLimit}
use Rattle.houdini.specs.Within.{IsWithin}
use Rattle.houdini.specs.Answers.{MeetsLimit}
use Rattle.pool_core.specs.declared.verdict.Why.{Why}
use Rattle.pool_core.specs.declared.verdict.Why.TheVariants as why
use Rattle.pool_core.specs.Candidates.{IsOfCandidates}

module _ (subject : Comparison) (alignment : ℕ) where
  -- It is the product of both functions' graphs, under the subject's condition and the alignment.
  pub record IsProductUnder (product : Product) : Type 0 where
    pub first : FlowGraph
    pub second : FlowGraph
    pub of_graphs : IsProductOf subject alignment first second product

  module _ (pairs : List Pair) where
    -- There is a product, and no family of candidates is linear over it.
    pub record HasNoCoupling : Type 0 where
      pub product : Product
      pub is_product : IsProductUnder product
      pub none : (family : Family) → IsOfCandidates subject alignment pairs family
          → ¬ IsLinearUnder subject alignment family

    -- There is a product. What is left has its nodes, in their order, is of candidates, and contains every family of
    -- candidates that is linear. Its obligation with this number meets the limit in elimination, with as many rows as
    -- the settings allow.
    pub record EndsAtObligation (obligation : ℕ) (left : Family) (limit : Limit) : Type 0 where
      pub product : Product
      pub is_product : IsProductUnder product
      pub nodes : map (λ entry. entry.0) left.nodes ≡ product.nodes
      pub candidates : IsOfCandidates subject alignment pairs left
      pub contains : (family : Family) → IsOfCandidates subject alignment pairs family
          → IsLinearUnder subject alignment family → IsWithin family left
      pub limited : MeetsLimit product left subject.settings.rows obligation limit

    -- The reason is true of the alignment, with the candidates of these pairs. A limit of the product is not want of
    -- memory.
    abbrev pub IsTried : Why → Type 0
    IsTried why.NoCoupling = HasNoCoupling
    IsTried (why.Product limit) = HasLimit subject alignment limit
    IsTried (why.AtObligation obligation left limit) = EndsAtObligation obligation left limit
