-- The parameters alone are in scope in a condition.
use Rattle.c_ast.specs.RawView.{raw_expression_of}
use Rattle.c_ast.specs.View.{expression_of}
use Rattle.c_check.specs.Resolving.{scope_at}
use Rattle.c_check.proofs.Conditions.{scope_is, condition_checked, condition_formed, condition_refused, refuses_condition}
use Rattle.c_check.proofs.condition.check_condition.Goals as goal

pub returns-in_err-made-clause-refused : goal.returns-in_err-made-clause-refused
returns-in_err-made-clause-refused c =
    let func = c.args.func.now in
    let expr = raw_expression_of c.args.raw in
    let scope = scope_is c.args.alloc func c.add_all.new.self (rw (c.new-at.ensures, c.parameters.ensures.parameters) at c.in_ok-add_all.ensures.added) in
    refuses_condition func expr c.in_err-made.field-0.0 c.from_residual-in_err-made.result _ c.from_residual-in_err-made.ensures.0
    c.from_residual-in_err-made.ensures.1 (λ other is. is)
    (condition_refused func expr (scope_at c.add_all.new.self) c.in_err-made.field-0.0 scope c.in_err-made.ensures)

pub returns-clause-checked : goal.returns-clause-checked
returns-clause-checked c =
    let func = c.args.func.now in
    let expr = raw_expression_of c.args.raw in
    let scope = scope_is c.args.alloc func c.add_all.new.self (rw (c.new-at.ensures, c.parameters.ensures.parameters) at c.in_ok-add_all.ensures.added) in
    condition_checked func expr (scope_at c.add_all.new.self) (expression_of c.in_ok-made.made) scope c.in_ok-made.ensures

pub returns-clause-formed : goal.returns-clause-formed
returns-clause-formed c =
    let func = c.args.func.now in
    let expr = raw_expression_of c.args.raw in
    let scope = scope_is c.args.alloc func c.add_all.new.self (rw (c.new-at.ensures, c.parameters.ensures.parameters) at c.in_ok-add_all.ensures.added) in
    condition_formed func expr (expression_of c.in_ok-made.made) c.parameters.ensures.formed c.requires.natural
    (condition_checked func expr (scope_at c.add_all.new.self) (expression_of c.in_ok-made.made) scope c.in_ok-made.ensures)
