use Rattle.std.proofs.Common.{[], ◌∷◌, ap, ◌∙◌}
use Rattle.std.proofs.lemmas.Result.{IfOk-weaker}
use Rattle.lin_terms.specs.declared.form.Form.{Form}
use Rattle.lin_terms.specs.declared.sign.Sign.TheVariants.{Negative, NotPositive, Positive}
use Rattle.lin_terms.specs.Sign.{sign_row}
use Rattle.sym_paths.specs.Rows.{all_joined}
use Rattle.sym_paths.specs.Arrivals.{fresh}
use Rattle.sym_paths.proofs.division.below_zero.Goals as goal

pub returns-clause-exact : goal.returns-clause-exact
returns-clause-exact c = IfOk-weaker c.where_all.result _ _ (λ way said.
    said ∙ ap (λ (above : Form). all_joined (sign_row Negative c.args.dividend.now ∷ sign_row NotPositive c.args.left.now
    ∷ sign_row Positive above ∷ []) c.args.form.now (fresh c.args.columns)) c.in_ok-above.ensures) c.where_all.ensures.exact
