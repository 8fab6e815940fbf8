-- What a search under an alignment finds.
use Rattle.std.specs.Prelude.{◌≡◌, ℕ, List}
use Rattle.c_ast.specs.declared.trace.Pair.{Pair}
use Rattle.c_ast.specs.Comparison.{Comparison}
use Rattle.horn_clauses.specs.declared.clause.Product.{Product}
use Rattle.horn_clauses.specs.declared.family.Family.{Family}
use Rattle.horn_clauses.specs.Family.{atoms_at}
use Rattle.relation.specs.Coupled.{Coupling, IsLinearUnder}
use Rattle.miners.specs.Candidates.{AreMinedFrom}
use Rattle.houdini.specs.Within.{IsWithin, family_of}
use Rattle.pool_core.specs.Candidates.{IsOfCandidates}
use Rattle.pool_core.specs.Justified.{ArePairsAt}
use Rattle.pool_core.specs.Tried.{IsTried}
use Rattle.workers.specs.declared.search.Found.{Found}
use Rattle.workers.specs.declared.search.Found.TheVariants as found

-- The candidates are mined of some pairs of the subject.
pub record AreMined (subject : Comparison) (alignment : ℕ) (candidates : Family) : Type 0 where
  pub indexes : List ℕ
  pub pairs : List Pair
  pub at : ArePairsAt subject indexes pairs
  pub mined : AreMinedFrom subject alignment pairs candidates

-- The family has the product's nodes in order, each with its candidates; `false` alone where a node has none.
abbrev pub IsOver : Product → Family → Family → Type 0
IsOver product candidates family = family ≡ family_of product.nodes (atoms_at candidates)

-- So it has candidates that are mined of some pairs of the subject.
pub record IsOverMined (subject : Comparison) (alignment : ℕ) (product : Product) (family : Family) : Type 0 where
  pub candidates : Family
  pub mined : AreMined subject alignment candidates
  pub over : IsOver product candidates family

module _ (subject : Comparison) (alignment : ℕ) (pairs : List Pair) where
  -- Each linear family of candidates is within this one.
  abbrev pub ContainsLinear : Family → Type 0
  ContainsLinear left = (family : Family) → IsOfCandidates subject alignment pairs family
      → IsLinearUnder subject alignment family → IsWithin family left

  -- The coupling is of the subject under the alignment, and its family is the greatest linear one of candidates.
  pub record IsGreatestCoupling (coupled : Coupling) : Type 0 where
    pub own : coupled.subject ≡ subject
    pub under : coupled.alignment ≡ alignment
    pub candidates : IsOfCandidates subject alignment pairs coupled.family
    pub greatest : ContainsLinear coupled.family

  -- What is found is so, with the candidates of these pairs.
  abbrev pub Finds : Found → Type 0
  Finds (found.Coupled coupled) = IsGreatestCoupling coupled
  Finds (found.Refused why) = IsTried subject alignment pairs why
