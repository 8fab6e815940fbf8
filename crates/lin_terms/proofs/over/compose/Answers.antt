use Rattle.std.proofs.Common.{rules, ap, length, ◌∙◌, FitsSigned, w64, to_z-of_z}
use Rattle.std.specs.Int.{w128}
use Rattle.lin_terms.proofs.Composing.{length-composed, value_at-made_composed}
use Rattle.lin_terms.proofs.over.compose.Goals as goal

pub returns-clause-columns : goal.returns-clause-columns
returns-clause-columns c =
    let coefs = rw c.as_slice.ensures at (c.from_vec-coefs.ensures ∙ c.in_ok-coefs_over.ensures.made) in
    ap length coefs ∙ length-composed c.args.columns c.args.form.now.coefs c.args.at.now c.requires.lengths

pub returns-clause-value : goal.returns-clause-value
returns-clause-value c =
    let fits : FitsSigned w128 c.composed_constant-constant.result = search rules in
    let made-fits : FitsSigned w64 c.fitting-constant.result = search rules in
    let coefs = rw c.as_slice.ensures at (c.from_vec-coefs.ensures ∙ c.in_ok-coefs_over.ensures.made) in
    let constant = (simp to_z-of_z at c.fitting-constant.ensures) ∙ c.composed_constant-constant.ensures in
    simp to_z-of_z (value_at-made_composed _ c.args.columns c.args.form.now c.args.at.now coefs constant)
