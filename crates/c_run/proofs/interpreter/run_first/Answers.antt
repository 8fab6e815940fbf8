-- Each kind of statement takes the step that its tree takes.
use Rattle.std.proofs.Common.{IfOk, [], ◌∷◌, sym, ◌∙◌, subst}
use Rattle.c_ast.specs.Tree.{Statements}
use Rattle.c_ast.specs.Step.{Run}
use Rattle.c_run.specs.Shown.{work_of, TakesStep}
use Rattle.c_ast.proofs.Laws.{fronts}
use Rattle.c_ast.specs.declared.stmt.Stmt.{Set, If, Loop, Break, Continue, Mark, Block}
use Rattle.c_run.proofs.Steps.{first_of, none_of, takes-Nil, takes-Loop, takes-Break, takes-Continue, takes-Mark, takes-Block}
use Rattle.c_run.proofs.interpreter.run_first.Goals as goal

pub returns-in_default : goal.returns-in_default
returns-in_default c = takes-Nil c.args.stmts.now c.args.environment.now c.args.work.now.items (none_of c.args.stmts.now c.in_default.len_below)

pub returns-in-Set : goal.returns-in-Set
returns-in-Set c =
    let is = first_of c.args.stmts.now c.first-item.result (Set c.in-Set.x c.in-Set.e) c.in-len1-up.len_at_least c.first-item.is c.in-Set.is in
    subst (λ (stmts : Statements). IfOk c.run_set.result (λ next. TakesStep (Run [] stmts ∷ work_of c.args.work.now.items)
    c.args.environment.now next (work_of c.run_set.new.work.items) c.run_set.new.environment))
    (sym (is ∙ fronts.set c.in-Set.x c.in-Set.e _)) c.run_set.ensures

pub returns-in-If : goal.returns-in-If
returns-in-If c =
    let is = first_of c.args.stmts.now c.first-item.result (If c.in-If.e c.in-If.a c.in-If.b) c.in-len1-up.len_at_least c.first-item.is c.in-If.is in
    subst (λ (stmts : Statements). IfOk c.run_if.result (λ next. TakesStep (Run [] stmts ∷ work_of c.args.work.now.items)
    c.args.environment.now next (work_of c.run_if.new.work.items) c.args.environment.now))
    (sym (is ∙ fronts.if_ c.in-If.e c.in-If.a c.in-If.b _)) c.run_if.ensures

pub returns-in_ok-enter-in-Loop : goal.returns-in_ok-enter-in-Loop
returns-in_ok-enter-in-Loop c =
    let is = first_of c.args.stmts.now c.first-item.result
    (Loop c.in-Loop.mark c.in-Loop.cond c.in-Loop.body c.in-Loop.step c.in-Loop.test_first) c.in-len1-up.len_at_least c.first-item.is c.in-Loop.is in
    takes-Loop c.args.stmts.now _ c.in-Loop.body c.in-Loop.step c.in-Loop.mark c.in-Loop.cond c.in-Loop.test_first _ c.args.environment.now
    c.args.work.now.items c.put.new.work.items c.enter.new.work.items is
    c.parts_of-parts.ensures c.in_ok-put-in-Loop.ensures c.in_ok-enter-in-Loop.ensures

pub returns-in-Break : goal.returns-in-Break
returns-in-Break c =
    let is = first_of c.args.stmts.now c.first-item.result Break c.in-len1-up.len_at_least c.first-item.is c.in-Break.is in
    takes-Break c.args.stmts.now _ c.args.environment.now c.args.work.now.items c.cut.new.work.items c.cut.result is c.cut.ensures

pub returns-in_ok-go_on-in-Continue : goal.returns-in_ok-go_on-in-Continue
returns-in_ok-go_on-in-Continue c =
    let is = first_of c.args.stmts.now c.first-item.result Continue c.in-len1-up.len_at_least c.first-item.is c.in-Continue.is in
    takes-Continue c.args.stmts.now _ c.args.environment.now c.args.work.now.items c.go_on.new.work.items is c.in_ok-go_on-in-Continue.ensures

pub returns-in_ok-put-in-Mark : goal.returns-in_ok-put-in-Mark
returns-in_ok-put-in-Mark c =
    let is = first_of c.args.stmts.now c.first-item.result (Mark c.in-Mark.mark) c.in-len1-up.len_at_least c.first-item.is c.in-Mark.is in
    takes-Mark c.args.stmts.now _ c.in-Mark.mark c.args.environment.now c.args.work.now.items c.put-in-Mark.new.work.items is c.in_ok-put-in-Mark.ensures

pub returns-in_ok-put-in-Block-2 : goal.returns-in_ok-put-in-Block-2
returns-in_ok-put-in-Block-2 c =
    let is = first_of c.args.stmts.now c.first-item.result (Block c.in-Block.a) c.in-len1-up.len_at_least c.first-item.is c.in-Block.is in
    takes-Block c.args.stmts.now _ c.in-Block.a c.as_slice.result.now c.args.environment.now c.args.work.now.items c.put-in-Block.new.work.items
    c.put-in-Block-2.new.work.items is
    c.in_ok-put-in-Block.ensures c.as_slice.ensures c.in_ok-put-in-Block-2.ensures
