-- Families of candidates.
use Rattle.std.specs.Prelude.{◌≡◌, ℕ, List, Option, Some, All}
use Rattle.c_ast.specs.declared.trace.Pair.{Pair}
use Rattle.c_ast.specs.Comparison.{Comparison}
use Rattle.horn_clauses.specs.declared.atom.Atom.{Atom}
use Rattle.horn_clauses.specs.declared.node.Node.{Node}
use Rattle.horn_clauses.specs.declared.family.Family.{Family}
use Rattle.horn_clauses.specs.Node.{entries}
use Rattle.horn_clauses.specs.Family.{atoms_at}
use Rattle.horn_clauses.specs.Equalities.{equal_parameters}
use Rattle.miners.specs.Candidates.{candidates_at, constants_for}
use Rattle.houdini.specs.Within.{IsSublist, candidates_or_false}

-- The candidates of these pairs at a node, where they meet it.
abbrev pub candidates_of : Comparison → ℕ → List Pair → Node → Option (List Atom)
candidates_of subject alignment pairs node =
    candidates_at alignment (constants_for subject) subject.first.params pairs node

-- Each node of the family has some of the atoms that are given for it, in their order; where none are given, some of
-- `false` alone.
abbrev pub IsDrawnFrom : (Node → Option (List Atom)) → Family → Type 0
IsDrawnFrom given family = All (λ entry. IsSublist entry.1 (candidates_or_false (given entry.0))) family.nodes

-- The family is of candidates of these pairs: each node's atoms are some of its candidates, in their order. At the two
-- entries these are the equalities of the parameters, and the family has all of them.
pub record IsOfCandidates (subject : Comparison) (alignment : ℕ) (pairs : List Pair) (family : Family) : Type 0 where
  pub at_entries : atoms_at family entries ≡ Some (equal_parameters subject.first.params)
  pub drawn : IsDrawnFrom (candidates_of subject alignment pairs) family
