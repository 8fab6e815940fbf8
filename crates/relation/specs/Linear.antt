-- Families over the nodes of a product, whose obligations are refuted: they are couplings.
use Rattle.std.specs.Prelude.{◌≡◌, ℕ, ◌+◌, List, map, All}
use Rattle.c_ast.specs.Tree.{Expression, Program}
use Rattle.flow_graph.specs.FlowGraph.{FlowGraph, width_at}
use Rattle.flow_graph.specs.Built.{IsGraphOf}
use Rattle.horn_clauses.specs.declared.clause.Product.{Product}
use Rattle.horn_clauses.specs.declared.family.Family.{Family}
use Rattle.horn_clauses.specs.declared.node.Node.{Node}
use Rattle.horn_clauses.specs.Obligations.{FitsNode, Obligation, obligations_of, AreRefuted}
use Rattle.coupling_check.specs.Checks.{AreRefutable}
use Rattle.path_product.specs.Agreement.{IsProduct}
use Rattle.horn_clauses.specs.Equalities.{BeginsEqual, EndsEqual}
use Rattle.relation.specs.Coupling.{IsCoupling}

-- How many values both sides have at the node.
abbrev pub node_width : FlowGraph → FlowGraph → Node → ℕ
node_width first second n = width_at first n.0 + width_at second n.1

-- The family has the product's nodes in their order, each with atoms over the values there.
pub record HasShape (first second : FlowGraph) (product : Product) (family : Family) : Type 0 where
  pub nodes : map (λ entry. entry.0) family.nodes ≡ product.nodes
  pub atoms : All (λ entry. All (FitsNode (node_width first second entry.0)) entry.1) family.nodes

-- The family has this shape. At the two entries it says exactly that the parameters are equal, pairwise, and at the two
-- exits it forces equal results.
pub record IsFamilyOver (first second : FlowGraph) (product : Product) (family : Family) : Type 0 where
  pub shape : HasShape first second product family
  pub at_entries : BeginsEqual first.params family
  pub at_exits : EndsEqual family

-- The family is one over the product, and multipliers refute each of its obligations.
pub record IsLinear (first second : FlowGraph) (product : Product) (family : Family) : Type 0 where
  pub over : IsFamilyOver first second product family
  pub refutable : AreRefutable family (obligations_of family product)

-- Where a family is over the product of two functions' graphs, and no whole numbers meet any of its obligations, it
-- couples the functions.
abbrev pub SoundnessOfProducts : Type 0
SoundnessOfProducts = (f g : Program) (first second : FlowGraph) (condition : Expression) (alignment : ℕ)
    (product : Product) (family : Family)
    → IsGraphOf f first → IsGraphOf g second → IsProduct first second condition alignment product
    → IsFamilyOver first second product family → AreRefuted family (obligations_of family product)
    → IsCoupling f g condition alignment family

-- No whole numbers meet an obligation that multipliers refute.
abbrev pub RefutableIsRefuted : Type 0
RefutableIsRefuted = (family : Family) (obligations : List Obligation)
    → AreRefutable family obligations → AreRefuted family obligations

-- A linear family over the product of two functions' graphs couples the functions.
abbrev pub LinearFamiliesCouple : Type 0
LinearFamiliesCouple = (f g : Program) (first second : FlowGraph) (condition : Expression) (alignment : ℕ)
    (product : Product) (family : Family)
    → IsGraphOf f first → IsGraphOf g second → IsProduct first second condition alignment product
    → IsLinear first second product family → IsCoupling f g condition alignment family
