use Rattle.std.proofs.Common.{pos, rules, to_z-of_z, FitsSigned, w64, refl, ap, length, ◌∙◌}
use Rattle.std.proofs.lemmas.List.{length-replicate}
use Rattle.lin_terms.proofs.FormLemmas.{fitting-constant_form, value_at-made_constant}
use Rattle.lin_terms.proofs.form.constant_form.Goals as goal

pub returns : goal.returns
returns c =
    let value-fits : FitsSigned w64 c.args.value = c.ranges.value in
    simp to_z-of_z (record {
      made = fitting-constant_form _ c.args.count c.args.value (search rules) c.in_ok-coefs.ensures refl;
      columns = ap length c.in_ok-coefs.ensures ∙ length-replicate c.args.count (pos 0);
      value = value_at-made_constant _ c.args.count c.args.value c.in_ok-coefs.ensures refl;
    })
