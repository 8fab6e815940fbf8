use Rattle.std.proofs.Common.{◌++◌, ap, ◌∙◌}
use Rattle.std.specs.Prelude.{if◌then◌else◌}
use Rattle.std.proofs.lemmas.Result.{IfOk-weaker}
use Rattle.lin_terms.specs.declared.form.Form.{Form}
use Rattle.sym_paths.specs.Rows.{all_joined}
use Rattle.sym_paths.specs.Symbolic.{Parts, rows_from_zero, rows_below_zero}
use Rattle.sym_paths.specs.Arrivals.{fresh}
use Rattle.sym_paths.proofs.Joining.{left_made}
use Rattle.sym_paths.proofs.division.part_beside.Goals as goal

pub returns-in-Ok-clause-exact : goal.returns-in-Ok-clause-exact
returns-in-Ok-clause-exact c = IfOk-weaker c.two_ways.result _ _ (λ all said.
    said
    ∙ ap (λ (form : Form). all_joined (rows_from_zero c.args.divisor.now c.args.dividend.now c.in-Ok.left) form (fresh c.args.columns)
    ++ all_joined (rows_below_zero c.args.divisor.now c.args.dividend.now c.in-Ok.left) form (fresh c.args.columns)) c.part-form.ensures
    ∙ left_made c.args.divisor.now c.args.dividend.now
    (λ (both : Parts). if c.args.wants_left then both.rest else both.quotient) c.args.unknown.now c.args.whole.now (fresh c.args.columns)
    c.in-Ok.left c.in-Ok.ensures.made) c.two_ways.ensures.exact
