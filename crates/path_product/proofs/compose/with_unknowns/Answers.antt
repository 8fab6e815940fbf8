use Rattle.std.proofs.Common.{◌+◌, ◌-◌, ◌++◌, ◌∙◌, List, [], ◌∷◌, length, length-append, ap, sym, subst, arith}
use Rattle.lin_terms.specs.declared.form.Form.{Form}
use Rattle.sym_paths.specs.Cases.{variables_from}
use Rattle.path_product.specs.Coded.{AreOver}
use Rattle.path_product.proofs.ComposedForms.{next_unknown, no_unknown, with_unknowns_over}
use Rattle.path_product.proofs.PathsFit.{length-variables}
use Rattle.path_product.proofs.compose.with_unknowns.Goals as goal

pub loop-i-preserved : goal.loop-i-preserved
loop-i-preserved c =
    let made = c.loop-i.made in
    let first = c.args.first in
    let i = c.loop-i.i in
    let pushed = c.in_ok-push.ensures.ok ∙ ap (λ (form : Form). c.loop-i.made ++ form ∷ []) c.in_ok-variable_form.ensures.made in
    ap (λ (forms : List Form). forms ++ variables_from c.args.columns (c.args.first + (c.loop-i.i + 1)) (c.args.count - (c.loop-i.i + 1))) pushed
    ∙ next_unknown made c.args.columns first c.args.count i (omega arith) ∙ c.loop-i.invariant

pub returns-clause-over : goal.returns-clause-over
returns-clause-over c =
    subst (AreOver c.args.columns)
    (sym (sym (no_unknown c.loop-i.made c.args.columns c.args.first c.args.count c.loop-i.i (omega arith)) ∙ c.loop-i.invariant))
    (with_unknowns_over c.args.forms.now c.args.columns c.args.first c.args.count c.requires.within c.requires.over)

pub returns-clause-many : goal.returns-clause-many
returns-clause-many c =
    let many = ap length (sym (no_unknown c.loop-i.made c.args.columns c.args.first c.args.count c.loop-i.i (omega arith)) ∙ c.loop-i.invariant) in
    let both = length-append c.args.forms.now (variables_from c.args.columns c.args.first c.args.count) in
    let new = length-variables c.args.columns c.args.first c.args.count in
    omega (arith, many, both, new)
