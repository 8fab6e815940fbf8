-- The rows of an obligation, as they are told.
use Rattle.std.specs.Prelude.{ℕ, ℤ, Bool, List, [], ◌++◌, map}
use Rattle.lin_terms.specs.declared.row.Row.{Row}
use Rattle.horn_clauses.specs.declared.atom.Atom.{Atom}
use Rattle.horn_clauses.specs.declared.atom.Atom.TheVariants.{False, Linear}
use Rattle.horn_clauses.specs.declared.clause.Clause.{Clause}
use Rattle.horn_clauses.specs.Obligations.{atom_row, negated_rows}

-- The atom's coefficients; `false` has none.
abbrev pub coefs_in : Atom → List ℤ
coefs_in False = []
coefs_in (Linear coefs constant rel) = coefs

-- The rows of these atoms over so many columns, those of the clause, and those that say that the atom fails at its end.
abbrev pub told_rows : ℕ → List Atom → Clause → Atom → Bool → List Row
told_rows columns atoms clause atom upper =
    map (atom_row columns) atoms ++ clause.rows ++ negated_rows columns clause.after atom upper
