use Rattle.std.proofs.Common.{rules, FitsSigned, w64, to_z-of_z, ◌∙◌, ap, length, sym}
use Rattle.lin_terms.specs.Vectors.{scaled}
use Rattle.lin_terms.proofs.Dots.{length-plus, length-scaled}
use Rattle.lin_terms.proofs.FormLemmas.{value_at-made_combination}
use Rattle.lin_terms.proofs.form.combined.Goals as goal

pub returns-clause-value : goal.returns-clause-value
returns-clause-value c =
    let made-fits : FitsSigned w64 c.fitting_sum-constant.result = search rules in
    let x-fits : FitsSigned w64 c.args.x.now.constant = search rules in
    let y-fits : FitsSigned w64 c.args.y.now.constant = search rules in
    let k-fits : FitsSigned w64 c.args.k.now = search rules in
    let coefs = rw (c.as_slice-xs.ensures, c.as_slice-ys.ensures) at (c.from_vec-coefs.ensures ∙ c.in_ok-sums.ensures) in
    simp to_z-of_z (value_at-made_combination _ c.args.x.now c.args.y.now c.args.k.now coefs (simp to_z-of_z at c.fitting_sum-constant.ensures))

pub returns-clause-columns : goal.returns-clause-columns
returns-clause-columns c =
    let coefs = rw (c.as_slice-xs.ensures, c.as_slice-ys.ensures) at (c.from_vec-coefs.ensures ∙ c.in_ok-sums.ensures) in
    ap length coefs ∙ length-plus c.args.x.now.coefs (scaled c.args.k.now c.args.y.now.coefs) (c.requires ∙ sym (length-scaled c.args.k.now c.args.y.now.coefs))
