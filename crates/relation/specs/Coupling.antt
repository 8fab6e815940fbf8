-- Couplings of two functions, under a condition on their inputs.
use Rattle.std.specs.Prelude.{◌≡◌, ℕ, ℤ, List, ◌++◌}
use Rattle.c_ast.specs.Tree.{Expression, Program}
use Rattle.c_ast.specs.Formed.{IsProgram}
use Rattle.c_ast.specs.Returns.{NeverDiffer}
use Rattle.c_ast.specs.Condition.{Meets, no_condition}
use Rattle.alignment.specs.Number.{IsAlignment}
use Rattle.horn_clauses.specs.declared.family.Family.{Family}
use Rattle.horn_clauses.specs.declared.node.Node.{Node}
use Rattle.horn_clauses.specs.Node.{entries}
use Rattle.horn_clauses.specs.Family.{InFamily}
use Rattle.horn_clauses.specs.Equalities.{BeginsEqual, EndsEqual}
use Rattle.relation.specs.Invariants.{AreKept}

-- The values of both sides are in the family at the node. At the entries those of side A, the inputs, meet the
-- condition too.
pub record IsInFamily (condition : Expression) (family : Family) (n : Node) (d e : List ℤ) : Type 0 where
  pub inside : InFamily family n (d ++ e)
  pub meets : n ≡ entries → Meets condition d

-- The family couples the functions, on inputs that meet the condition, under the alignment. At the entries it says
-- exactly that the parameters are equal, pairwise. From each node but the two exits, and from all values in the family
-- there, whatever both sides' moves end with is in the family again. At the exits it forces equal results.
pub record IsCoupling (f g : Program) (condition : Expression) (alignment : ℕ) (family : Family) : Type 0 where
  pub at_entries : BeginsEqual f.params family
  pub kept : AreKept f g alignment (IsInFamily condition family)
  pub at_exits : EndsEqual family

-- Where a family couples two functions with as many parameters, no inputs that meet the condition make the two return
-- differently.
abbrev pub LawOfCouplings : Type 0
LawOfCouplings = (f g : Program) (condition : Expression) (alignment : ℕ) (family : Family)
    → IsProgram f → IsProgram g → f.params ≡ g.params
    → IsAlignment alignment → IsCoupling f g condition alignment family → NeverDiffer f g condition

-- A coupling of all inputs is one under each condition.
abbrev pub CouplesUnderEach : Type 0
CouplesUnderEach = (f g : Program) (condition : Expression) (alignment : ℕ) (family : Family)
    → IsCoupling f g no_condition alignment family
    → IsCoupling f g condition alignment family
