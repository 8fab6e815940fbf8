use Rattle.std.proofs.Common.{◌≡◌, ◌∙◌, ◌+◌, List, sym, ap, subst, refl}
use Rattle.std.proofs.lemmas.Result.{IfErr-weaker}
use Rattle.lin_terms.specs.declared.form.Form.{Form}
use Rattle.sym_paths.specs.Walk.{Walk}
use Rattle.sym_paths.specs.Nodes.{End}
use Rattle.path_product.specs.Compose.{rows_and_end, case_over}
use Rattle.path_product.specs.Coded.{state_of, StopsAt}
use Rattle.path_product.proofs.ComposedForms.{case_is}
use Rattle.path_product.proofs.compose.case_over.Goals as goal

pub returns-clause-limit : goal.returns-clause-limit
returns-clause-limit c =
    let all = c.args.columns + c.unknowns_of-unknowns.result in
    let same : rows_and_end (c.args.columns + c.unknowns_of-unknowns.result) c.as_slice.result.now c.args.case.now
    (state_of c.args.rows.now (c.args.columns + c.unknowns_of-unknowns.result))
    ≡ case_over c.args.most c.args.forms.now c.args.case.now (state_of c.args.rows.now c.args.columns) =
    ap (λ (at : List Form). rows_and_end (c.args.columns + c.unknowns_of-unknowns.result) at c.args.case.now
    (state_of c.args.rows.now (c.args.columns + c.unknowns_of-unknowns.result)))
    (c.as_slice.ensures ∙ c.in_ok-at.ensures.made)
    ∙ sym (case_is c.args.most c.args.forms.now c.args.case.now c.args.rows.now c.args.columns c.unknowns_of-unknowns.result all
    c.unknowns_of-unknowns.ensures refl c.if-all-most.false) in
    IfErr-weaker c.rows_and_end.result
    (StopsAt (rows_and_end all c.as_slice.result.now c.args.case.now (state_of c.args.rows.now all)))
    (StopsAt (case_over c.args.most c.args.forms.now c.args.case.now (state_of c.args.rows.now c.args.columns)))
    (λ why stopped. subst (λ (walk : Walk End). StopsAt walk why) same stopped) c.rows_and_end.ensures.limit
