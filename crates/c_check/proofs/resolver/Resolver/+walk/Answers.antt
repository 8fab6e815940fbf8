-- Each kind of statement is gone over as its tree is.
use Rattle.std.proofs.Common.{◌≡◌, ◌∙◌, ap, List, [], drop}
use Rattle.std.specs.Prelude.{option_map}
use Rattle.std.proofs.lemmas.List.{drop_all}
use Rattle.c_ast.specs.declared.raw.RawStmt.{RawStmt}
use Rattle.c_ast.specs.RawTree as raw
use Rattle.c_ast.specs.RawView.{raw_put_in_front, raw_expression_of, raw_condition_of, raw_one, raw_optional, raw_branches, raw_statements_of}
use Rattle.c_check.specs.Resolving.{statements_at, with_front, joined_to}
use Rattle.c_check.proofs.RawFronts.{front-Declare, front-Assign, front-If, front-While, front-Do, front-For, front-Break, front-Continue, front-Return, front-Mark, front-Block}
use Rattle.c_check.proofs.Going.{one_pushed, all_pushed, after_kind, puts_jump_break, puts_jump_continue, puts_return, puts_mark, puts_branches, puts_for_behind, fails_as, pushes_as, fails_test, fails_body}
use Rattle.c_check.proofs.resolver.Resolver.+walk.Goals as goal
use Rattle.c_check.proofs.resolver.Resolver.+walk.Goals.{item-in-Assign+in_ok-found-in-Assign, item-in-If+in_ok-cond-in-If+in_ok-first-in-If+in_ok-second-in-If, item-in-While+in_ok-found-in-While, item-in-Do+in_ok-found-in-Do, item-in-For+in_ok-before-in-For+in_ok-enter-in-For+in_ok-head-in-For+in_ok-found-in-For+in_ok-next-in-For+in_ok-inner-in-For+in_ok-put-in-For, item-in-Break+in_ok-found-in-Break, item-in-Continue+in_ok-found-in-Continue, item-in-Return+in_ok-expression-in-Return, item-in-Mark+in_ok-mark-in-Mark, item-in-Block+in_ok-found-in-Block}

pub one-returns : goal.one-returns
one-returns t c = one_pushed c.args.in_loop (raw_put_in_front c.args.stmt.now) c.args.self.now c.item.new.self c.new-made.result c.item.new.made
    c.new-made.ensures c.in_ok-item.ensures

pub items-returns : goal.items-returns
items-returns t c =
    let found : statements_at c.args.self.now c.args.in_loop (raw_statements_of c.args.stmts.now)
    ≡ with_front (joined_to c.loop-stmt.made)
    (statements_at c.loop-stmt.self c.args.in_loop (raw_statements_of (drop c.loop-stmt.stmt-index c.args.stmts.now))) = c.loop-stmt.invariant in
    let end_of : drop c.loop-stmt.stmt-index c.args.stmts.now ≡ [] = drop_all c.loop-stmt.stmt-index c.args.stmts.now c.loop-stmt-test.false in
    all_pushed c.loop-stmt.self c.loop-stmt.made (statements_at c.args.self.now c.args.in_loop (raw_statements_of c.args.stmts.now))
    (found ∙ ap (λ (list : List RawStmt). with_front (joined_to c.loop-stmt.made) (statements_at c.loop-stmt.self c.args.in_loop (raw_statements_of list)))
    end_of)

pub item-returns-in-Declare : goal.item-returns-in-Declare
item-returns-in-Declare t c =
    pushes_as c.args.in_loop c.args.stmt.now _ c.args.self.now c.declarators.new.self c.args.made.now c.declarators.new.made
    (λ others. ap (λ (stmt : RawStmt). raw_put_in_front stmt others) c.in-Declare.is ∙ front-Declare c.in-Declare.list others)
    (rw c.as_slice.ensures at c.in_ok-declarators-in-Declare.ensures c.args.in_loop)

pub item-returns-in_err-declarators-in-Declare : goal.item-returns-in_err-declarators-in-Declare
item-returns-in_err-declarators-in-Declare t c =
    fails_as c.args.in_loop c.args.stmt.now _ c.args.self.now _ c.args.made.now _ c.in_err-declarators-in-Declare.field-0.0 c.from_residual.result _
    (λ others. ap (λ (stmt : RawStmt). raw_put_in_front stmt others) c.in-Declare.is ∙ front-Declare c.in-Declare.list others)
    c.from_residual.ensures.0 c.from_residual.ensures.1 (λ other is. is) (rw c.as_slice.ensures at c.in_err-declarators-in-Declare.ensures c.args.in_loop)

pub item-returns-in_err-found-in-Assign : goal.item-returns-in_err-found-in-Assign
item-returns-in_err-found-in-Assign t c =
    let failed = c.from_residual-in_err-found-in-Assign in
    fails_as c.args.in_loop c.args.stmt.now _ c.args.self.now c.args.self.now c.args.made.now c.args.made.now c.in_err-found-in-Assign.field-0.0 failed.result _
    (λ others. ap (λ (stmt : RawStmt). raw_put_in_front stmt others) c.in-Assign.is ∙ front-Assign c.in-Assign.name c.in-Assign.line c.in-Assign.value others)
    failed.ensures.0 failed.ensures.1 (λ other is. is) (c.in_err-found-in-Assign.ensures c.args.in_loop)

pub item-returns-in_err-found-in-For : goal.item-returns-in_err-found-in-For
item-returns-in_err-found-in-For t c =
    let failed = c.from_residual-in_err-found-in-For in
    fails_as c.args.in_loop c.args.stmt.now _ c.args.self.now _ c.args.made.now _ c.in_err-found-in-For.field-0.0 failed.result _
    (λ others. ap (λ (stmt : RawStmt). raw_put_in_front stmt others) c.in-For.is ∙ front-For c.in-For.start c.in-For.cond c.in-For.step c.in-For.body others)
    failed.ensures.0 failed.ensures.1 (λ other is. is)
    (fails_test c.args.in_loop (raw_optional (option_map raw_put_in_front c.in-For.start)) (option_map raw_condition_of c.in-For.cond)
    (raw_optional (option_map raw_put_in_front c.in-For.step))
    (raw_one (raw_put_in_front c.in-For.body)) c.args.self.now c.begin_loop.new.self c.enter.new.self c.one_or_none.new.self c.in_ok-head-in-For.head
    c.in_err-found-in-For.field-0.0
    c.in_ok-before-in-For.ensures.counted c.in_ok-enter-in-For.ensures.entered c.in_ok-head-in-For.ensures c.in_err-found-in-For.ensures.made)

pub item-returns-in_err-inner-in-For : goal.item-returns-in_err-inner-in-For
item-returns-in_err-inner-in-For t c =
    let failed = c.from_residual-in_err-inner-in-For in
    fails_as c.args.in_loop c.args.stmt.now _ c.args.self.now _ c.args.made.now _ c.in_err-inner-in-For.field-0.0 failed.result _
    (λ others. ap (λ (stmt : RawStmt). raw_put_in_front stmt others) c.in-For.is ∙ front-For c.in-For.start c.in-For.cond c.in-For.step c.in-For.body others)
    failed.ensures.0 failed.ensures.1 (λ other is. is)
    (fails_body c.args.in_loop (raw_optional (option_map raw_put_in_front c.in-For.start)) (option_map raw_condition_of c.in-For.cond)
    (raw_optional (option_map raw_put_in_front c.in-For.step))
    (raw_one (raw_put_in_front c.in-For.body)) c.args.self.now c.begin_loop.new.self c.enter.new.self c.one_or_none.new.self c.condition_option.new.self
    c.block_or_none-in-For.new.self c.in_ok-head-in-For.head
    c.in_ok-next-in-For.next c.in_ok-found-in-For.found.cond c.in_err-inner-in-For.field-0.0
    c.in_ok-before-in-For.ensures.counted c.in_ok-enter-in-For.ensures.entered c.in_ok-head-in-For.ensures c.in_ok-found-in-For.ensures.made
    c.in_ok-next-in-For.ensures (rw c.get-in-For.ensures at c.in_err-inner-in-For.ensures))

pub item-returns : goal.item-returns
item-returns t c =
    elim c.match-stmt.branch [
      | item-in-Assign+in_ok-found-in-Assign w ↦
          after_kind c.args.in_loop c.args.stmt.now (raw.Assign w.in-Assign.name w.in-Assign.line (raw_expression_of w.in-Assign.value)) c.args.self.now
          c.match-stmt.self c.args.made.now c.put-2.new.made c.match-stmt.found c.put-2.result
          c.put-2.ensures.put c.put-2.ensures.memory w.self-is w.found-is
          (λ others. ap (λ (stmt : RawStmt). raw_put_in_front stmt others) w.in-Assign.is
          ∙ front-Assign w.in-Assign.name w.in-Assign.line w.in-Assign.value others)
          (w.in_ok-found-in-Assign.ensures c.args.in_loop)
      | item-in-If+in_ok-cond-in-If+in_ok-first-in-If+in_ok-second-in-If w ↦
          after_kind c.args.in_loop c.args.stmt.now (raw_branches (raw_expression_of w.in-If.cond) (raw_one (raw_put_in_front w.in-If.first))
          (option_map raw_put_in_front w.in-If.second)) c.args.self.now c.match-stmt.self c.args.made.now c.put-2.new.made c.match-stmt.found c.put-2.result
          c.put-2.ensures.put c.put-2.ensures.memory w.self-is w.found-is
          (λ others. ap (λ (stmt : RawStmt). raw_put_in_front stmt others) w.in-If.is ∙ front-If w.in-If.cond w.in-If.first w.in-If.second others)
          (puts_branches c.args.in_loop (raw_expression_of w.in-If.cond) (raw_one (raw_put_in_front w.in-If.first))
          (option_map raw_put_in_front w.in-If.second) c.args.self.now w.block.new.self w.block_or_none.new.self
          w.in_ok-cond-in-If.cond w.in_ok-first-in-If.first w.in_ok-second-in-If.second w.in_ok-cond-in-If.ensures
          (rw w.get.ensures at w.in_ok-first-in-If.ensures) w.in_ok-second-in-If.ensures)
      | item-in-While+in_ok-found-in-While w ↦
          after_kind c.args.in_loop c.args.stmt.now (raw.While (raw_condition_of w.in-While.cond) (raw_one (raw_put_in_front w.in-While.body)))
          c.args.self.now c.match-stmt.self c.args.made.now c.put-2.new.made c.match-stmt.found c.put-2.result
          c.put-2.ensures.put c.put-2.ensures.memory w.self-is w.found-is
          (λ others. ap (λ (stmt : RawStmt). raw_put_in_front stmt others) w.in-While.is ∙ front-While w.in-While.cond w.in-While.body others)
          (rw w.get-in-While.ensures at w.in_ok-found-in-While.ensures)
      | item-in-Do+in_ok-found-in-Do w ↦
          after_kind c.args.in_loop c.args.stmt.now (raw.Do (raw_one (raw_put_in_front w.in-Do.body)) (raw_condition_of w.in-Do.cond)) c.args.self.now
          c.match-stmt.self c.args.made.now c.put-2.new.made c.match-stmt.found c.put-2.result
          c.put-2.ensures.put c.put-2.ensures.memory w.self-is w.found-is
          (λ others. ap (λ (stmt : RawStmt). raw_put_in_front stmt others) w.in-Do.is ∙ front-Do w.in-Do.body w.in-Do.cond others)
          (rw w.get-in-Do.ensures at w.in_ok-found-in-Do.ensures)
      | item-in-For+in_ok-before-in-For+in_ok-enter-in-For+in_ok-head-in-For+in_ok-found-in-For+in_ok-next-in-For+in_ok-inner-in-For+in_ok-put-in-For w ↦
          after_kind c.args.in_loop c.args.stmt.now
          (raw.For (raw_optional (option_map raw_put_in_front w.in-For.start)) (option_map raw_condition_of w.in-For.cond)
          (raw_optional (option_map raw_put_in_front w.in-For.step)) (raw_one (raw_put_in_front w.in-For.body))) c.args.self.now c.match-stmt.self
          c.args.made.now c.put-2.new.made c.match-stmt.found c.put-2.result
          c.put-2.ensures.put c.put-2.ensures.memory w.self-is w.found-is
          (λ others. ap (λ (stmt : RawStmt). raw_put_in_front stmt others) w.in-For.is
          ∙ front-For w.in-For.start w.in-For.cond w.in-For.step w.in-For.body others)
          (puts_for_behind c.args.in_loop (raw_optional (option_map raw_put_in_front w.in-For.start)) (option_map raw_condition_of w.in-For.cond)
          (raw_optional (option_map raw_put_in_front w.in-For.step)) (raw_one (raw_put_in_front w.in-For.body))
          c.args.self.now w.begin_loop.new.self w.enter.new.self w.one_or_none.new.self w.condition_option.new.self w.block_or_none-in-For.new.self
          w.block-in-For.new.self w.leave.new.self
          w.in_ok-head-in-For.head w.in_ok-next-in-For.next w.in_ok-inner-in-For.inner w.put.new.made w.loop_mark-mark.result w.in_ok-found-in-For.found.cond
          w.in_ok-before-in-For.ensures.counted w.in_ok-enter-in-For.ensures.entered w.in_ok-head-in-For.ensures w.in_ok-found-in-For.ensures.made
          w.in_ok-next-in-For.ensures
          (rw w.get-in-For.ensures at w.in_ok-inner-in-For.ensures)
          (rw (w.get-in-For-2.ensures, w.in_ok-found-in-For.ensures.mark, w.in_ok-before-in-For.ensures.number) at w.loop_mark-mark.ensures)
          (rw w.tests_first.ensures at w.in_ok-put-in-For.ensures.put) w.leave.ensures)
      | item-in-Break+in_ok-found-in-Break w ↦
          after_kind c.args.in_loop c.args.stmt.now (raw.Break w.in-Break.line) c.args.self.now c.match-stmt.self c.args.made.now c.put-2.new.made
          c.match-stmt.found c.put-2.result
          c.put-2.ensures.put c.put-2.ensures.memory w.self-is (w.found-is ∙ w.in_ok-found-in-Break.ensures.1)
          (λ others. ap (λ (stmt : RawStmt). raw_put_in_front stmt others) w.in-Break.is ∙ front-Break w.in-Break.line others)
          (puts_jump_break c.args.in_loop c.args.self.now w.in-Break.line w.in_ok-found-in-Break.ensures.0)
      | item-in-Continue+in_ok-found-in-Continue w ↦
          after_kind c.args.in_loop c.args.stmt.now (raw.Continue w.in-Continue.line) c.args.self.now c.match-stmt.self c.args.made.now c.put-2.new.made
          c.match-stmt.found c.put-2.result
          c.put-2.ensures.put c.put-2.ensures.memory w.self-is (w.found-is ∙ w.in_ok-found-in-Continue.ensures.1)
          (λ others. ap (λ (stmt : RawStmt). raw_put_in_front stmt others) w.in-Continue.is ∙ front-Continue w.in-Continue.line others)
          (puts_jump_continue c.args.in_loop c.args.self.now w.in-Continue.line w.in_ok-found-in-Continue.ensures.0)
      | item-in-Return+in_ok-expression-in-Return w ↦
          after_kind c.args.in_loop c.args.stmt.now (raw.Return (raw_expression_of w.in-Return.value)) c.args.self.now c.match-stmt.self c.args.made.now
          c.put-2.new.made c.match-stmt.found c.put-2.result
          c.put-2.ensures.put c.put-2.ensures.memory w.self-is w.found-is
          (λ others. ap (λ (stmt : RawStmt). raw_put_in_front stmt others) w.in-Return.is ∙ front-Return w.in-Return.value others)
          (puts_return c.args.in_loop c.args.self.now (raw_expression_of w.in-Return.value) _ w.in_ok-expression-in-Return.ensures)
      | item-in-Mark+in_ok-mark-in-Mark w ↦
          after_kind c.args.in_loop c.args.stmt.now (raw.Mark w.in-Mark.mark) c.args.self.now c.match-stmt.self c.args.made.now c.put-2.new.made
          c.match-stmt.found c.put-2.result
          c.put-2.ensures.put c.put-2.ensures.memory w.self-is w.found-is
          (λ others. ap (λ (stmt : RawStmt). raw_put_in_front stmt others) w.in-Mark.is ∙ front-Mark w.in-Mark.mark others)
          (puts_mark c.args.in_loop c.args.self.now w.mark.new.self w.in-Mark.mark _ w.in_ok-mark-in-Mark.ensures.0 w.in_ok-mark-in-Mark.ensures.1)
      | item-in-Block+in_ok-found-in-Block w ↦
          after_kind c.args.in_loop c.args.stmt.now (raw.Block (raw_statements_of w.in-Block.list)) c.args.self.now c.match-stmt.self c.args.made.now
          c.put-2.new.made c.match-stmt.found c.put-2.result
          c.put-2.ensures.put c.put-2.ensures.memory w.self-is w.found-is
          (λ others. ap (λ (stmt : RawStmt). raw_put_in_front stmt others) w.in-Block.is ∙ front-Block w.in-Block.list others)
          (rw w.as_slice-in-Block.ensures at w.in_ok-found-in-Block.ensures)
    ]
