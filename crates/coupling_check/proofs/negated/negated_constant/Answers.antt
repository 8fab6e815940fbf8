use Rattle.std.proofs.Common.{rules, ◌<◌, ◌^◌, sym, subst, FitsSigned, to_z-of_z}
use Rattle.std.specs.Int.{w128}
use Rattle.std.specs.Prelude.{ℤ, unsigned_abs}
use Rattle.coupling_check.proofs.Telling.{is_of, constant_size}
use Rattle.coupling_check.proofs.negated.negated_constant.Goals as goal

pub turned-requires : goal.turned-requires
turned-requires c =
    let fits : FitsSigned w128 c.constant_between-between.result = search rules in
    simp to_z-of_z (subst (λ (z : ℤ). unsigned_abs z < 2 ^ 57) (sym c.constant_between-between.ensures)
    (constant_size c.args.columns c.args.forms.now c.args.atom.now c.args.upper c.as_slice.result.now c.in-Linear.constant c.in-Linear.rel
    (is_of c.args.atom.now c.in-Linear.coefs c.as_slice.result.now c.in-Linear.constant c.in-Linear.rel c.in-Linear.is c.as_slice.ensures)
    c.requires.fit))
