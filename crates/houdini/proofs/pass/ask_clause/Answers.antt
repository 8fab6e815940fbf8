use Rattle.std.proofs.Common.{sym, subst, List}
use Rattle.std.specs.Prelude.{All}
use Rattle.horn_clauses.specs.declared.atom.Atom.{Atom}
use Rattle.horn_clauses.specs.Obligations.{CanOblige}
use Rattle.houdini.proofs.Asking.{can_oblige_each}
use Rattle.houdini.proofs.pass.ask_clause.Goals as goal

pub ask_atoms-requires : goal.ask_atoms-requires
ask_atoms-requires g c =
    subst (λ (atoms : List Atom). All (CanOblige c.args.family.now c.args.clause.now) atoms) (sym c.atoms_or_none-atoms.ensures)
    (can_oblige_each c.args.family.now c.args.clause.now c.requires)
