use Rattle.std.proofs.Common.{◌∙◌, ap, sym}
use Rattle.std.specs.Prelude.{ℤ, unsigned_abs, ◌==◌}
use Rattle.std.specs.List.{list_all}
use Rattle.lin_terms.proofs.FormLemmas.{value_at-constant}
use Rattle.lin_terms.proofs.form.Form.is_constant.Goals as goal

pub returns-clause-value : goal.returns-clause-value
returns-clause-value c is values =
    let tested = c.are_zeros.ensures ∙ ap (list_all (λ (entry : ℤ). unsigned_abs entry == 0)) c.as_slice.ensures in
    value_at-constant c.args.self.now values (sym tested ∙ is)
