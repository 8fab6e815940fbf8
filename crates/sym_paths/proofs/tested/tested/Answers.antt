use Rattle.std.proofs.Common.{◌≡◌, Bool, true, sym, ◌∙◌, ap}
use Rattle.std.proofs.lemmas.Result.{IfOk-weaker}
use Rattle.lin_terms.specs.Form.{is_constant}
use Rattle.sym_paths.specs.Walk.{gives}
use Rattle.sym_paths.specs.Symbolic.{tested_by}
use Rattle.sym_paths.specs.Arrivals.{fresh}
use Rattle.sym_paths.proofs.tested.tested.Goals as goal

pub returns-then-is_constant : goal.returns-then-is_constant
returns-then-is_constant c =
    let constant : is_constant c.args.form.now ≡ true = sym c.is_constant.ensures.test ∙ c.if-is_constant.true in
    IfOk-weaker c.certain.result _ _ (λ found said columns.
    said columns ∙ ap (λ (t : Bool). gives t (fresh columns)) c.is_nonzero.ensures
    ∙ sym (ap (λ (t : Bool). tested_by t c.args.form.now (fresh columns)) constant)) c.certain.ensures
