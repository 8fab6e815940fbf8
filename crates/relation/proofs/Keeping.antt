-- What is kept of a family that couples a comparison, and that its obligations can be checked.
use Rattle.std.proofs.Common.{◌≡◌, ℕ, suc, ◌≤◌, List, [], ◌∷◌, length, take, Option, Some, None, ap, ◌∙◌, refl, sym, subst, arith}
use Rattle.std.specs.Prelude.{ℤ, Ok, Err, Result, Contains}
use Rattle.std.proofs.lemmas.List.Elements.{All-contains}
use Rattle.c_ast.specs.Tree.{Expression}
use Rattle.c_ast.specs.declared.expr.Expr.{Expr}
use Rattle.c_ast.specs.View.{expression_of}
use Rattle.c_ast.specs.Value.{CanEvaluate}
use Rattle.c_ast.specs.Step.{first_variables}
use Rattle.c_ast.specs.Condition.{given_condition}
use Rattle.c_ast.specs.Comparison.{Comparison, IsComparison, IsCondition, condition_of}
use Rattle.c_ast.specs.Function.{Function, program_of}
use Rattle.c_ast.proofs.Laws.{over_can_evaluate, parameters_are_below}
use Rattle.flow_graph.specs.FlowGraph.{FlowGraph}
use Rattle.flow_graph.specs.Built.{IsGraphOf}
use Rattle.alignment.specs.Number.{IsAlignment}
use Rattle.horn_clauses.specs.declared.clause.Clause.{Clause}
use Rattle.horn_clauses.specs.declared.clause.Product.{Product}
use Rattle.horn_clauses.specs.declared.clause.Proofs.{Proofs}
use Rattle.horn_clauses.specs.declared.family.Family.{Family}
use Rattle.horn_clauses.specs.declared.node.Node.{Node}
use Rattle.horn_clauses.specs.Obligations as obligations
use Rattle.horn_clauses.specs.Obligations.{HasFittingAtoms, obligations_of}
use Rattle.path_product.specs.Agreement.{HasNode, FitsItsNodes, IsProduct}
use Rattle.coupling_check.specs.Checks.{AreProved, Checks, ChecksUpTo, CanCheckClause, CanCheck}
use Rattle.coupling_check.proofs.Laws.{checked_is_refutable}
use Rattle.relation.specs.Linear.{node_width, HasShape, IsFamilyOver, IsLinear}
use Rattle.relation.specs.declared.not_coupled.NotCoupled.{NotCoupled}
use Rattle.relation.specs.declared.not_coupled.NotCoupled.TheVariants.{Limit, Shape, AtEntry, AtExit, Obligation, Memory}
use Rattle.relation.specs.Coupled.{IsProductOf, Coupling, coupling, IsCoupled, CoupledNeverDiffer, lists_for, CouplesOver, Couples}
use Rattle.relation.proofs.Families.{in_family, has_fitting, linear_families_couple}
use Rattle.relation.proofs.Couplings.{couplings_force}

-- ---- the check

module _ (first second : FlowGraph) (condition : Expression) (alignment : ℕ) (product : Product) (family : Family)
    (is : IsProduct first second condition alignment product) (shape : HasShape first second product family) where
  fits_at : (n : Node) → Contains product.nodes n → HasFittingAtoms family n (node_width first second n)
  fits_at n has = has_fitting first second product family shape n (in_family first second product family shape n has)

  few_at : (n : Node) → Contains product.nodes n → node_width first second n ≤ 16
  few_at n has = (All-contains (HasNode first second) product.nodes n is.nodes has).few

  can_check_clause : (clause : Clause) → FitsItsNodes first second clause → Contains product.nodes clause.from → Contains product.nodes clause.to
      → CanCheckClause family clause
  can_check_clause clause fits from to = record {
    start = node_width first second clause.from;
    end = node_width first second clause.to;
    at_start = fits_at clause.from from;
    at_end = fits_at clause.to to;
    between = fits;
    few_at_start = few_at clause.from from;
    few_at_end = few_at clause.to to;
  }

  -- All clauses of a product fit a family of its shape.
  pub can_check : CanCheck product family
  can_check = λ k d inside. can_check_clause _ (is.clauses k d inside) (is.closed.from k d inside).0 (is.closed.to k d inside)

-- ---- the lists

-- The lists past the last obligation prove nothing.
kept_prove : (family : Family) (obligations : List obligations.Obligation) (lists : List (List ℤ)) → AreProved family obligations lists
    → AreProved family obligations (take (length obligations) lists)
kept_prove family [] lists proved = tt
kept_prove family (obligation ∷ obligations) [] proved = absurd proved
kept_prove family (obligation ∷ obligations) (multipliers ∷ lists) proved = (proved.0, kept_prove family obligations lists proved.1)

kept_are_as_many : (family : Family) (obligations : List obligations.Obligation) (lists : List (List ℤ)) → AreProved family obligations lists
    → length (take (length obligations) lists) ≡ length obligations
kept_are_as_many family [] lists proved = refl
kept_are_as_many family (obligation ∷ obligations) [] proved = absurd proved
kept_are_as_many family (obligation ∷ obligations) (multipliers ∷ lists) proved = ap suc (kept_are_as_many family obligations lists proved.1)

-- ---- a coupled comparison

-- A family whose obligations check couples the comparison.
pub coupled_of : (subject : Comparison) (alignment : ℕ) (first second : FlowGraph) (product : Product) (family : Family) (proofs : Proofs)
    → IsComparison subject → IsAlignment alignment → IsProductOf subject alignment first second product → IsFamilyOver first second product family
    → Checks product family proofs → IsCoupled (coupling subject alignment family (lists_for family product proofs))
coupled_of subject alignment first second product family proofs formed named is_product over checked =
    let linear : IsLinear first second product family = record { over = over; refutable = checked_is_refutable product family proofs checked } in
    record {
      formed = formed;
      named = named;
      linear = record { first = first; second = second; product = product; is_product = is_product; linear = linear };
      checked = kept_prove family (obligations_of family product) proofs.lists checked;
      as_many = kept_are_as_many family (obligations_of family product) proofs.lists checked;
      couples = linear_families_couple (program_of subject.first) (program_of subject.second) first second (condition_of subject) alignment product family
          is_product.graphs.first_graph is_product.graphs.second_graph is_product.is linear;
    }

-- The same of what the code has: a copy of the comparison, and the lists that are left.
pub kept_is_coupled : (subject made : Comparison) (alignment : ℕ) (first second : FlowGraph) (product : Product) (family : Family) (proofs : Proofs)
    (count : ℕ) (lists : List (List ℤ)) → IsComparison subject → IsAlignment alignment → IsProductOf subject alignment first second product
    → IsFamilyOver first second product family → ChecksUpTo product family proofs (Ok count) → made ≡ subject → lists ≡ take count proofs.lists
    → IsCoupled (coupling made alignment family (record { lists = lists }))
kept_is_coupled subject made alignment first second product family proofs count lists formed named is_product over checked is_subject are_lists =
    let kept : lists ≡ take (length (obligations_of family product)) proofs.lists = are_lists ∙ ap (λ (n : ℕ). take n proofs.lists) checked.1 in
    subst (λ (some : List (List ℤ)). IsCoupled (coupling made alignment family (record { lists = some }))) (sym kept)
    (subst (λ (c : Comparison). IsCoupled (coupling c alignment family (lists_for family product proofs))) (sym is_subject)
    (coupled_of subject alignment first second product family proofs formed named is_product over checked.0))

-- ---- the making

-- The condition can be evaluated on the inputs of the graph.
pub can_ask : (c : Comparison) (graph : FlowGraph) (f : Function) (given : Option Expr) → IsComparison c → f ≡ c.first → IsGraphOf (program_of f) graph
    → given ≡ c.condition → CanEvaluate graph.params (given_condition given)
can_ask c graph f None formed is_first is_graph is_given = tt
can_ask c graph f (Some condition) formed is_first is_graph is_given =
    let over : IsCondition c.first condition = formed.condition condition (sym is_given) in
    let below = parameters_are_below c.first.params c.first.params (omega arith) in
    let arity : graph.params ≡ c.first.params = is_graph.params ∙ ap (λ (g : Function). g.params) is_first in
    subst (λ (n : ℕ). CanEvaluate n (expression_of condition)) (sym arity)
    (over_can_evaluate (expression_of condition) c.first.params (first_variables c.first.params) below over)

-- What comes over a product comes over some product.
pub couples_some : (subject : Comparison) (alignment : ℕ) (first second : FlowGraph) (product : Product) (family : Family) (proofs : Proofs)
    (answer : Result Coupling NotCoupled) → IsProductOf subject alignment first second product
    → CouplesOver subject alignment first second product family proofs answer → Couples subject alignment family proofs answer
couples_some subject alignment first second product family proofs (Ok made) is_product couples =
    record { first = first; second = second; product = product; is_product = is_product; couples = couples }
couples_some subject alignment first second product family proofs (Err (Limit why)) is_product couples = absurd couples
couples_some subject alignment first second product family proofs (Err Shape) is_product couples =
    record { first = first; second = second; product = product; is_product = is_product; couples = couples }
couples_some subject alignment first second product family proofs (Err AtEntry) is_product couples =
    record { first = first; second = second; product = product; is_product = is_product; couples = couples }
couples_some subject alignment first second product family proofs (Err AtExit) is_product couples =
    record { first = first; second = second; product = product; is_product = is_product; couples = couples }
couples_some subject alignment first second product family proofs (Err (Obligation number)) is_product couples =
    record { first = first; second = second; product = product; is_product = is_product; couples = couples }
couples_some subject alignment first second product family proofs (Err Memory) is_product couples = tt

-- ---- what a coupled comparison says

pub coupled_never_differ : CoupledNeverDiffer
coupled_never_differ c is =
    couplings_force (program_of c.subject.first) (program_of c.subject.second) (condition_of c.subject) c.alignment c.family is.formed.first
    is.formed.second is.formed.arity is.named is.couples
