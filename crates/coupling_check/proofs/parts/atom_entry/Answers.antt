use Rattle.std.proofs.Common.{rules, ◌∙◌, sym, get_or, FitsSigned, w64, to_z-of_z}
use Rattle.std.specs.Prelude.{ℤ, pos}
use Rattle.coupling_check.proofs.Telling.{read_of_atom}
use Rattle.coupling_check.proofs.parts.atom_entry.Goals as goal

pub returns : goal.returns
returns c =
    let fits : FitsSigned w64 c.entry_in.result = search rules in
    simp to_z-of_z (c.entry_in.ensures
    ∙ sym (read_of_atom c.args.columns c.args.atoms.now c.args.i c.index-atoms-i.result c.requires c.index-atoms-i.is ℤ
    (λ row. get_or row.coefs c.args.j (pos 0)) (pos 0)))
