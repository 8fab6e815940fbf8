use Rattle.std.proofs.Common.{sym, subst, List}
use Rattle.std.specs.Prelude.{All}
use Rattle.horn_clauses.specs.declared.atom.Atom.{Atom}
use Rattle.horn_clauses.specs.Obligations.{CanOblige}
use Rattle.coupling_check.proofs.Proving.{can_oblige_all}
use Rattle.coupling_check.proofs.check.check_clause.Goals as goal

pub check_atoms-requires : goal.check_atoms-requires
check_atoms-requires c =
    subst (λ (atoms : List Atom). All (CanOblige c.args.family.now c.args.clause.now) atoms) (sym c.atoms_or_none-atoms.ensures)
    (can_oblige_all c.args.family.now c.args.clause.now c.requires)
