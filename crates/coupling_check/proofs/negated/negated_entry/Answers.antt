use Rattle.std.proofs.Common.{rules, ◌<◌, ◌^◌, ◌∙◌, sym, ap, subst, FitsSigned, w64, to_z-of_z}
use Rattle.std.specs.Int.{w128}
use Rattle.std.specs.Prelude.{ℤ, ◌*ℤ◌, unsigned_abs}
use Rattle.lin_terms.specs.declared.sign.Sign.{Sign}
use Rattle.lin_terms.specs.Form.{entries_at}
use Rattle.lin_terms.specs.Sign.{factor_of}
use Rattle.lin_terms.specs.Vectors.{dot}
use Rattle.coupling_check.proofs.Telling.{is_of, entry_size, negated_entry_is}
use Rattle.coupling_check.proofs.negated.negated_entry.Goals as goal

pub turned-requires : goal.turned-requires
turned-requires c =
    let fits : FitsSigned w128 c.coef_over.result = search rules in
    simp to_z-of_z (subst (λ (z : ℤ). unsigned_abs z < 2 ^ 57) (sym c.coef_over.ensures.value)
    (entry_size c.args.columns c.args.forms.now c.args.atom.now c.args.upper c.as_slice.result.now c.in-Linear.constant c.in-Linear.rel
    (is_of c.args.atom.now c.in-Linear.coefs c.as_slice.result.now c.in-Linear.constant c.in-Linear.rel c.in-Linear.is c.as_slice.ensures)
    c.args.j c.requires.fit))

pub returns-in-Linear : goal.returns-in-Linear
returns-in-Linear c =
    let fits : FitsSigned w64 c.turned.result = search rules in
    let wide : FitsSigned w128 c.coef_over.result = search rules in
    let value = simp to_z-of_z at c.turned.ensures.value in
    simp to_z-of_z (value
    ∙ ap (λ (z : ℤ). factor_of c.side_of.result *ℤ z) c.coef_over.ensures.value
    ∙ ap (λ (side : Sign). factor_of side *ℤ dot c.as_slice.result.now (entries_at c.args.j c.args.forms.now)) c.side_of.ensures
    ∙ sym (negated_entry_is c.args.columns c.args.forms.now c.args.atom.now c.args.upper c.as_slice.result.now c.in-Linear.constant c.in-Linear.rel
    (is_of c.args.atom.now c.in-Linear.coefs c.as_slice.result.now c.in-Linear.constant c.in-Linear.rel c.in-Linear.is c.as_slice.ensures) c.args.j))
