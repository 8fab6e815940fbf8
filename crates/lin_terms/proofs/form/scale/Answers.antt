use Rattle.std.proofs.Common.{rules, FitsSigned, w64, to_z-of_z, ◌∙◌}
use Rattle.lin_terms.proofs.FormLemmas.{value_at-made_multiple}
use Rattle.lin_terms.proofs.form.scale.Goals as goal

pub returns-clause-value : goal.returns-clause-value
returns-clause-value c =
    let k-fits : FitsSigned w64 c.args.k = c.ranges.k in
    let made-fits : FitsSigned w64 c.fitting_product-constant.result = search rules in
    let x-fits : FitsSigned w64 c.args.x.now.constant = search rules in
    let multiples = simp to_z-of_z at c.in_ok-multiples.ensures in
    let coefs = rw c.as_slice-xs.ensures at (c.from_vec-coefs.ensures ∙ multiples) in
    simp to_z-of_z (value_at-made_multiple _ c.args.x.now c.args.k coefs (simp to_z-of_z at c.fitting_product-constant.ensures))
