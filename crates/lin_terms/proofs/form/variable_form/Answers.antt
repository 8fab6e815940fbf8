use Rattle.std.proofs.Common.{◌∙◌, ap, pos, set, List}
use Rattle.std.specs.Prelude.{ℤ}
use Rattle.lin_terms.proofs.FormLemmas.{value_at-made_variable, equal_parts}
use Rattle.lin_terms.specs.Form.{variable_form}
use Rattle.std.proofs.Common.{refl}
use Rattle.lin_terms.proofs.form.variable_form.Goals as goal

pub returns-clause-value : goal.returns-clause-value
returns-clause-value c =
    let coefs = c.set.ensures ∙ ap (λ (zeros : List ℤ). set zeros c.args.x (pos 1)) c.in_ok-coefs.ensures in
    value_at-made_variable _ c.args.count c.args.x c.requires (equal_parts _ (variable_form c.args.count c.args.x) coefs refl)
