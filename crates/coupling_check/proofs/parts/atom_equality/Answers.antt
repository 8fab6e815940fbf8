use Rattle.std.proofs.Common.{◌∙◌, sym, Bool, false}
use Rattle.coupling_check.proofs.Telling.{read_of_atom}
use Rattle.coupling_check.proofs.parts.atom_equality.Goals as goal

pub returns : goal.returns
returns c =
    c.equality_in.ensures
    ∙ sym (read_of_atom c.args.columns c.args.atoms.now c.args.i c.index-atoms-i.result c.requires c.index-atoms-i.is Bool (λ row. row.equality) false)
