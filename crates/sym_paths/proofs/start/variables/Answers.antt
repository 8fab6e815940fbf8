use Rattle.std.proofs.Common.{true, ◌≡◌, ◌<◌, ◌+◌, ◌-◌, ◌++◌, ◌∙◌, List, [], ◌∷◌, All, ap, sym, subst, arith}
use Rattle.std.proofs.lemmas.List.Elements.{All-push}
use Rattle.lin_terms.specs.declared.form.Form.{Form}
use Rattle.lin_terms.specs.Form.{variable_form}
use Rattle.sym_paths.specs.Cases.{variables_from}
use Rattle.sym_paths.specs.Arrivals.{HasRoom}
use Rattle.sym_paths.proofs.Starting.{variables_next, begun_has_room}
use Rattle.sym_paths.proofs.start.variables.Goals as goal

pub loop-number-preserved : goal.loop-number-preserved
loop-number-preserved c =
    let kept = c.loop-number.invariant in
    let room = c.args.room in
    let count = c.args.count in
    let test = c.loop-number-test.true in
    let last = c.loop-number.auto.number-end in
    let below : c.loop-number.number < c.args.count = omega (arith, test, last) in
    let pushed : c.push.new.self.items ≡ c.loop-number.forms.items ++ variable_form c.args.room c.loop-number.number ∷ [] =
    c.in_ok-push.ensures.items ∙ ap (λ (f : Form). c.loop-number.forms.items ++ f ∷ []) c.in_ok-form.ensures.made in (
      ap (λ (fs : List Form). fs ++ variables_from room (c.loop-number.number + 1) (count - (c.loop-number.number + 1))) pushed
          ∙ variables_next room count c.loop-number.number c.loop-number.forms.items below kept.0,
      subst (All (HasRoom room)) (sym pushed)
          (All-push (HasRoom room) c.loop-number.forms.items (variable_form room c.loop-number.number) kept.1 (begun_has_room room true c.loop-number.number)),
      omega (arith, below),
    )
