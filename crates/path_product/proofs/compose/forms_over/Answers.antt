use Rattle.std.proofs.Common.{◌≡◌, ◌+◌, ◌++◌, ◌∙◌, List, true, map, drop, ap, sym, subst}
use Rattle.lin_terms.specs.declared.form.Form.{Form}
use Rattle.path_product.specs.Compose.{form_over, all_fit}
use Rattle.path_product.specs.Coded.{AreOver}
use Rattle.path_product.proofs.ComposedForms.{next_form, all_fit_more, over_more}
use Rattle.path_product.proofs.compose.forms_over.Goals as goal

pub loop-form-preserved : goal.loop-form-preserved
loop-form-preserved c =
    let item = c.form-item.result in
    let i = c.loop-form.form-index in
    let made = c.loop-form.made in
    let form = c.in_ok-form_over.field-0 in
    let kept = c.loop-form.invariant in
    let pushed = c.in_ok-push.ensures.ok in
    record {
      same = ap (λ (forms : List Form). forms ++ map (form_over c.args.columns c.args.at.now) (drop (c.loop-form.form-index + 1) c.args.forms.now)) pushed
          ∙ next_form (form_over c.args.columns c.args.at.now) c.args.forms.now i item c.loop-form-test.true c.form-item.is made kept.same form
          c.in_ok-form_over.ensures.made;
      fit = subst (λ (forms : List Form). all_fit forms ≡ true) (sym pushed)
          (all_fit_more made (form_over c.args.columns c.args.at.now item) form c.in_ok-form_over.ensures.made kept.fit);
      over = subst (AreOver c.args.columns) (sym pushed)
          (over_more c.args.columns made (form_over c.args.columns c.args.at.now item) form c.in_ok-form_over.ensures.made c.in_ok-form_over.ensures.columns
          kept.over);
    }
