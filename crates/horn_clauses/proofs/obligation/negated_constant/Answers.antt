use Rattle.std.proofs.Common.{rules, sym, subst, ◌<◌, ◌^◌, arith, FitsSigned, to_z-of_z}
use Rattle.std.specs.Int.{w128}
use Rattle.std.specs.Prelude.{ℤ, unsigned_abs}
use Rattle.horn_clauses.proofs.Negated.{constant_size}
use Rattle.horn_clauses.proofs.obligation.negated_constant.Goals as goal

pub turned-requires : goal.turned-requires
turned-requires c =
    let fits : FitsSigned w128 c.constant_between.result = search rules in
    let size = constant_size c.args.columns c.args.forms.now c.args.coefs.now c.requires.can c.args.constant.now c.requires.fits in
    simp to_z-of_z (subst (λ (z : ℤ). unsigned_abs z < 2 ^ 56) (sym c.constant_between.ensures) (omega (arith, size)))
