-- Each variable is listed where it is a parameter, or set in front of the place.
use Rattle.std.proofs.Common.{◌≡◌, ◌++◌, ◌∷◌, [], ◌∙◌, length, sym, ap, arith, ◌+◌}
use Rattle.c_ast.specs.Step.{Scope, first_variables, is_in}
use Rattle.c_ast.proofs.InScope.{lists_one, lists_other}
use Rattle.c_ast.proofs.func.Func.scope.Goals as goal
use Rattle.c_ast.proofs.func.Func.scope.Goals.{then-has+in_ok-push, else-has}

pub loop-x-preserved : goal.loop-x-preserved
loop-x-preserved c =
    let before = c.before-2.inside.items.items in
    let scope = before ++ first_variables c.args.self.now.params in
    let same : c.as_slice.result.now ≡ before = c.as_slice.ensures ∙ sym c.before-2.view_is in
    let decides : c.has.result ≡ is_in scope c.loop-x.x = c.has.ensures
    ∙ ap (λ (s : Scope). is_in (s ++ first_variables c.args.self.now.params) c.loop-x.x) same in
    elim c.if-has.branch [
      | then-has+in_ok-push w ↦
          let items : c.if-has.variables.items ≡ c.loop-x.variables.items ++ c.loop-x.x ∷ [] = rw w.variables-is w.in_ok-push.ensures.items in
          rw items (lists_one scope (length c.vars.result.now) c.loop-x.x (c.loop-x.x + 1) c.loop-x.variables.items (omega arith) (omega arith)
          (sym decides ∙ w.if-has.true) c.loop-x.invariant)
      | else-has w ↦
          rw w.variables-is (lists_other scope (length c.vars.result.now) c.loop-x.x (c.loop-x.x + 1) c.loop-x.variables.items (omega arith) (omega arith)
          (sym decides ∙ w.if-has.false) c.loop-x.invariant)
    ]
