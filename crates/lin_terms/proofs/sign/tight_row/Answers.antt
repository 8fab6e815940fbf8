use Rattle.std.proofs.Common.{◌∙◌, ap}
use Rattle.lin_terms.specs.declared.row.Row.{Row}
use Rattle.lin_terms.specs.Sign.{sign_row}
use Rattle.lin_terms.specs.Tight.{tight_of}
use Rattle.lin_terms.proofs.Rows.{tight_row-holds, fitting_is}
use Rattle.lin_terms.proofs.sign.tight_row.Goals as goal

pub returns-clause-holds : goal.returns-clause-holds
returns-clause-holds c =
    let made = fitting_is (sign_row c.args.sign c.args.form.now) c.in_ok-row.row c.in_ok-row.ensures in
    tight_row-holds c.args.sign c.args.form.now c.in_ok-tight.field-0 (c.in_ok-tight.ensures.exact ∙ ap (λ (row : Row). tight_of row) made)
