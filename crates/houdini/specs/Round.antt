-- One round of a search.
use Rattle.std.specs.Prelude.{◌≡◌, ℕ, ◌<◌, ◌≤◌, length}
use Rattle.horn_clauses.specs.declared.clause.Product.{Product}
use Rattle.horn_clauses.specs.declared.family.Family.{Family}
use Rattle.horn_clauses.specs.Node.{entries}
use Rattle.horn_clauses.specs.Family.{atoms_at}
use Rattle.horn_clauses.specs.Equalities.{EndsEqual}
use Rattle.horn_clauses.specs.Obligations.{atoms_or_none}
use Rattle.coupling_check.specs.Checks.{Checks}
use Rattle.houdini.specs.declared.search.Round.{Round}
use Rattle.houdini.specs.declared.search.Round.TheVariants as round
use Rattle.houdini.specs.Linear.{Narrows}
use Rattle.houdini.specs.Striking.{count_atoms}
use Rattle.houdini.specs.Answers.{MeetsLimit}

-- The family has as many atoms at the entries, and says at the exits that the results are equal.
pub record MayCouple (family : Family) (at_entries : ℕ) : Type 0 where
  pub many : at_entries ≤ length (atoms_or_none (atoms_at family entries))
  pub at_exits : EndsEqual family

-- The second family is narrower, and has fewer atoms.
pub record IsStruck (product : Product) (family left : Family) : Type 0 where
  pub narrows : Narrows product family left
  pub fewer : count_atoms left.nodes < count_atoms family.nodes

-- The proofs prove the family's obligations; or one was not refutable, and an atom was struck; or one has a limit.
abbrev pub AnswersRound : Product → Family → ℕ → Round → Type 0
AnswersRound product family cap (round.Proved proved proofs) = (proved ≡ family) × Checks product family proofs
AnswersRound product family cap (round.Struck left) = IsStruck product family left
AnswersRound product family cap (round.Limited number left limit) =
    (left ≡ family) × MeetsLimit product family cap number limit
