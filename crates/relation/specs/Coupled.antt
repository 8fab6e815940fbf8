-- Comparisons with a family that is known to couple them.
use Rattle.std.specs.Prelude.{◌≡◌, ◌≢◌, ◌≤◌, ℕ, length, take, Result, Ok, Err, All, unsigned_abs}
use Rattle.c_ast.specs.Comparison.{Comparison, IsComparison, condition_of}
use Rattle.c_ast.specs.Function.{program_of}
use Rattle.c_ast.specs.Returns.{NeverDiffer}
use Rattle.lin_terms.specs.Bounds.{FitsForm}
use Rattle.flow_graph.specs.FlowGraph.{FlowGraph}
use Rattle.flow_graph.specs.Built.{IsGraphOf}
use Rattle.alignment.specs.Number.{IsAlignment}
use Rattle.horn_clauses.specs.declared.atom.Atom.{Atom}
use Rattle.horn_clauses.specs.declared.atom.Atom.TheVariants.{False, Linear}
use Rattle.horn_clauses.specs.declared.clause.Product.{Product}
use Rattle.horn_clauses.specs.declared.clause.Proofs.{Proofs}
use Rattle.horn_clauses.specs.declared.family.Family.{Family}
use Rattle.horn_clauses.specs.Obligations.{obligations_of}
use Rattle.path_product.specs.declared.limit.ProductLimit.{ProductLimit}
use Rattle.path_product.specs.declared.limit.ProductLimit.TheVariants as limit
use Rattle.path_product.specs.Product.{product_under}
use Rattle.path_product.specs.Agreement.{IsProduct}
use Rattle.coupling_check.specs.Checks.{Checks, FailsAt}
use Rattle.relation.specs.declared.not_coupled.NotCoupled.{NotCoupled}
use Rattle.relation.specs.declared.not_coupled.NotCoupled.TheVariants.{Limit, Shape, AtEntry, AtExit, Obligation, Memory}
use Rattle.horn_clauses.specs.Equalities.{BeginsEqual, EndsEqual}
use Rattle.relation.specs.Coupling.{IsCoupling}
use Rattle.relation.specs.Linear.{HasShape, IsFamilyOver, IsLinear}

-- ---- the product of a comparison

-- The graphs are those of both functions.
pub record AreGraphs (subject : Comparison) (first second : FlowGraph) : Type 0 where
  pub first_graph : IsGraphOf (program_of subject.first) first
  pub second_graph : IsGraphOf (program_of subject.second) second

-- It is the product of graphs of both functions, under the comparison's condition and the alignment.
pub record IsProductOf (subject : Comparison) (alignment : ℕ) (first second : FlowGraph)
    (product : Product) : Type 0 where
  pub graphs : AreGraphs subject first second
  pub made : product_under first second (condition_of subject) alignment ≡ Ok product
  pub is : IsProduct first second (condition_of subject) alignment product

-- Of some graphs of both functions there is a product, and the family is linear over it.
pub record IsLinearUnder (subject : Comparison) (alignment : ℕ) (family : Family) : Type 0 where
  pub first : FlowGraph
  pub second : FlowGraph
  pub product : Product
  pub is_product : IsProductOf subject alignment first second product
  pub linear : IsLinear first second product family

-- ---- what is kept

-- A comparison, an alignment, a family and multipliers for its obligations.
pub record Coupling : Type 0 where
  pub subject : Comparison
  pub alignment : ℕ
  pub family : Family
  pub proofs : Proofs

-- That of these parts.
abbrev pub coupling : Comparison → ℕ → Family → Proofs → Coupling
coupling subject alignment family proofs =
    record { subject = subject; alignment = alignment; family = family; proofs = proofs }

-- The family is linear over a product of the comparison, there is a list of multipliers for each of its obligations and
-- no other, and it couples the two functions.
pub record IsCoupled (c : Coupling) : Type 0 where
  pub formed : IsComparison c.subject
  pub named : IsAlignment c.alignment
  pub linear : IsLinearUnder c.subject c.alignment c.family
  pub checked : Checks linear.product c.family c.proofs
  pub as_many : length c.proofs.lists ≡ length (obligations_of c.family linear.product)
  pub couples : IsCoupling (program_of c.subject.first) (program_of c.subject.second) (condition_of c.subject)
      c.alignment c.family

-- No inputs that meet the condition make the functions of a coupled comparison return differently.
abbrev pub CoupledNeverDiffer : Type 0
CoupledNeverDiffer = (c : Coupling) → IsCoupled c
    → NeverDiffer (program_of c.subject.first) (program_of c.subject.second) (condition_of c.subject)

-- ---- what is asked of a family

-- Each coefficient of the atom is from -2 to 2, and its constant is below 2^50 in size.
abbrev pub IsSmallAtom : Atom → Type 0
IsSmallAtom False = Unit {0}
IsSmallAtom (Linear coefs constant rel) = All (λ coef. unsigned_abs coef ≤ 2) coefs × FitsForm constant

-- So are all atoms of the family.
abbrev pub HasSmallAtoms : Family → Type 0
HasSmallAtoms family = All (λ entry. All IsSmallAtom entry.1) family.nodes

-- ---- what the making of a coupled comparison comes to

-- The lists for the obligations of the family; those past the last one are dropped.
abbrev pub lists_for : Family → Product → Proofs → Proofs
lists_for family product proofs = record { lists = take (length (obligations_of family product)) proofs.lists }

-- Over the product of these graphs the family is refused for this cause, and for none that comes before it.
abbrev pub IsRefused : FlowGraph → FlowGraph → Product → Family → Proofs → NotCoupled → Type 0
IsRefused first second product family proofs (Limit why) = ⊥
IsRefused first second product family proofs Shape = ¬ HasShape first second product family
IsRefused first second product family proofs AtEntry =
    HasShape first second product family × (¬ BeginsEqual first.params family)
IsRefused first second product family proofs AtExit =
    HasShape first second product family × BeginsEqual first.params family × (¬ EndsEqual family)
IsRefused first second product family proofs (Obligation number) =
    IsFamilyOver first second product family × FailsAt family (obligations_of family product) proofs.lists number
IsRefused first second product family proofs Memory = Unit {0}

module _ (subject : Comparison) (alignment : ℕ) where
  -- What it comes to over the product of these graphs: the parts that were given, where nothing refuses them; else the
  -- first cause. Want of memory says nothing.
  abbrev pub CouplesOver : FlowGraph → FlowGraph → Product → Family → Proofs → Result Coupling NotCoupled → Type 0
  CouplesOver first second product family proofs (Ok made) =
      (made ≡ coupling subject alignment family (lists_for family product proofs))
      × IsFamilyOver first second product family × Checks product family proofs
  CouplesOver first second product family proofs (Err why) = IsRefused first second product family proofs why

  -- The same over the product of some graphs of both functions.
  pub record CouplesOverSome (family : Family) (proofs : Proofs) (answer : Result Coupling NotCoupled) : Type 0 where
    pub first : FlowGraph
    pub second : FlowGraph
    pub product : Product
    pub is_product : IsProductOf subject alignment first second product
    pub couples : CouplesOver first second product family proofs answer

  -- Of some graphs of both functions the making of the product meets this limit, which is not want of memory.
  pub record HasLimit (why : ProductLimit) : Type 0 where
    pub first : FlowGraph
    pub second : FlowGraph
    pub graphs : AreGraphs subject first second
    pub meets : product_under first second (condition_of subject) alignment ≡ Err why
    pub kept : why ≢ limit.Memory

  -- The limit of the product comes first, and then what is refused over it.
  abbrev pub Couples : Family → Proofs → Result Coupling NotCoupled → Type 0
  Couples family proofs (Err (Limit why)) = HasLimit why
  Couples family proofs (Err Memory) = Unit {0}
  Couples family proofs answer = CouplesOverSome family proofs answer

-- What a limit of the product comes to.
abbrev pub at_limit : ProductLimit → NotCoupled
at_limit limit.Memory = Memory
at_limit why = Limit why
