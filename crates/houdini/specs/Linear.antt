-- Linear families of candidates.
use Rattle.std.specs.Prelude.{◌≡◌}
use Rattle.horn_clauses.specs.declared.clause.Product.{Product}
use Rattle.horn_clauses.specs.declared.family.Family.{Family}
use Rattle.horn_clauses.specs.Node.{entries}
use Rattle.horn_clauses.specs.Family.{atoms_at}
use Rattle.horn_clauses.specs.Equalities.{EndsEqual}
use Rattle.horn_clauses.specs.Obligations.{obligations_of}
use Rattle.coupling_check.specs.Checks.{AreRefutable}
use Rattle.houdini.specs.Within.{IsWithin}

-- The family is one of the candidates, with all of those at the entries; at the exits it says that the results are
-- equal; and multipliers refute each of its obligations.
pub record IsLinearWithin (product : Product) (candidates family : Family) : Type 0 where
  pub within : IsWithin family candidates
  pub at_entries : atoms_at family entries ≡ atoms_at candidates entries
  pub at_exits : EndsEqual family
  pub refutable : AreRefutable family (obligations_of family product)

-- Each linear family of the candidates is within this family.
abbrev pub ContainsLinear : Product → Family → Family → Type 0
ContainsLinear product candidates left =
    (family : Family) → IsLinearWithin product candidates family → IsWithin family left

-- The new family is one of the old one's atoms, and no linear family is lost.
pub record Narrows (product : Product) (old new : Family) : Type 0 where
  pub within : IsWithin new old
  pub linear : (family : Family) → IsLinearWithin product old family → IsLinearWithin product new family
