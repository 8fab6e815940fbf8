use Rattle.std.proofs.Common.{rules, ◌∙◌, sym, FitsSigned, w64, to_z-of_z}
use Rattle.std.specs.Prelude.{ℤ, pos}
use Rattle.coupling_check.proofs.Telling.{read_of_atom, fitting_atom}
use Rattle.coupling_check.proofs.parts.atom_constant.Goals as goal

pub constant_in-requires : goal.constant_in-requires
constant_in-requires c =
    fitting_atom c.args.columns c.args.atoms.now c.args.i c.index-atoms-i.result c.requires.inside c.index-atoms-i.is c.requires.fit

pub returns : goal.returns
returns c =
    let fits : FitsSigned w64 c.constant_in.result = search rules in
    simp to_z-of_z (c.constant_in.ensures
    ∙ sym (read_of_atom c.args.columns c.args.atoms.now c.args.i c.index-atoms-i.result c.requires.inside c.index-atoms-i.is ℤ (λ row. row.constant) (pos 0)))
