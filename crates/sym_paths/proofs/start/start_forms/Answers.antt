use Rattle.std.proofs.Common.{◌≡◌, ◌<◌, ◌≤◌, ◌+◌, ◌-◌, ◌++◌, ◌∙◌, List, [], ◌∷◌, ℕ, All, length, ap, sym, subst, arith}
use Rattle.std.proofs.lemmas.List.Elements.{All-push}
use Rattle.lin_terms.specs.declared.form.Form.{Form}
use Rattle.sym_paths.specs.Arrivals.{HasRoom}
use Rattle.sym_paths.specs.Starts.{begun, met_after}
use Rattle.sym_paths.proofs.Starting.{to_come, begun_next, begun_has_room, after_within}
use Rattle.sym_paths.proofs.start.start_forms.Goals as goal

pub loop-x-preserved : goal.loop-x-preserved
loop-x-preserved c =
    let kept = c.loop-x.invariant in
    let room = c.args.room in
    let variables = c.args.variables.now in
    let vars = c.args.vars in
    let forms = c.loop-x.forms.items in
    let is_next = c.is_next-is_next.result in
    let test = c.loop-x-test.true in
    let last = c.loop-x.auto.x-end in
    let below : c.loop-x.x < c.args.vars = omega (arith, test, last) in
    let pushed : c.push.new.self.items ≡ c.loop-x.forms.items ++ begun c.args.room c.is_next-is_next.result c.loop-x.met ∷ [] =
    c.in_ok-push.ensures.items ∙ ap (λ (f : Form). c.loop-x.forms.items ++ f ∷ []) c.in_ok-form.ensures in
    let after : c.met_after-met.result ≡ met_after c.is_next-is_next.result c.loop-x.met = c.met_after-met.ensures in (
      ap (λ (fs : List Form). fs ++ to_come room variables (c.loop-x.x + 1) (vars - (c.loop-x.x + 1)) c.met_after-met.result) pushed
          ∙ ap (λ (m : ℕ). (forms ++ begun room is_next c.loop-x.met ∷ []) ++ to_come room variables (c.loop-x.x + 1) (vars - (c.loop-x.x + 1)) m) after
          ∙ begun_next room variables vars c.loop-x.x c.loop-x.met forms is_next c.is_next-is_next.ensures kept.2 below kept.0,
      subst (All (HasRoom room)) (sym pushed)
          (All-push (HasRoom room) forms (begun room is_next c.loop-x.met) kept.1 (begun_has_room room is_next c.loop-x.met)),
      subst (λ (m : ℕ). m ≤ length variables) (sym after) (after_within variables c.loop-x.x c.loop-x.met is_next c.is_next-is_next.ensures kept.2),
      omega (arith, below),
    )
