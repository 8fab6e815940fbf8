use Rattle.std.proofs.Common.{rules, sym, subst, ◌<◌, ◌^◌, FitsSigned, to_z-of_z}
use Rattle.std.specs.Int.{w128}
use Rattle.std.specs.Prelude.{ℤ, unsigned_abs}
use Rattle.horn_clauses.proofs.Negated.{coef_size}
use Rattle.horn_clauses.proofs.obligation.negated_coef.Goals as goal

pub turned-requires : goal.turned-requires
turned-requires c =
    let fits : FitsSigned w128 c.coef_over.result = search rules in
    simp to_z-of_z (subst (λ (z : ℤ). unsigned_abs z < 2 ^ 56) (sym c.coef_over.ensures.value)
    (coef_size c.args.columns c.args.forms.now c.args.coefs.now c.requires c.args.j))
