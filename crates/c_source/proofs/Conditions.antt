-- A text is read as one condition at most, or else is refused for one reason at most.
use Rattle.std.proofs.Common.{◌≡◌, ◌≢◌, ℕ, ◌<◌, ◌≤◌, List, Some, None, refl, sym, ap, ◌∙◌, subst, arith}
use Rattle.std.specs.Prelude.{Option}
use Rattle.c_ast.specs.declared.expr.Expr.{Expr}
use Rattle.c_ast.specs.Function.{Function}
use Rattle.c_ast.specs.RawTree.{RawExpression}
use Rattle.c_ast.specs.Tree.{Expression}
use Rattle.c_ast.specs.View.{expression_of}
use Rattle.c_ast.proofs.Laws.{one_expression}
use Rattle.c_tokens.specs.declared.token.Token.{Token}
use Rattle.c_tokens.specs.declared.fault.TokenFault.{TokenFault}
use Rattle.c_reader.specs.declared.fault.ReadFault.{ReadFault}
use Rattle.c_reader.specs.Expressions.{SpellsExpression}
use Rattle.c_reader.proofs.Laws.{expression-one}
use Rattle.c_check.specs.declared.fault.CheckFault.{CheckFault}
use Rattle.c_check.specs.declared.fault.CheckFault.TheVariants as check
use Rattle.c_check.specs.Condition.{fault_in_condition, IsCheckedCondition, IsConditionFault}
use Rattle.c_check.proofs.Laws.{same_condition}
use Rattle.c_source.specs.declared.fault.TextFault.{TextFault}
use Rattle.c_source.specs.declared.fault.TextFault.TheVariants as refusal
use Rattle.c_source.specs.TextFaults.{of_check}
use Rattle.c_source.specs.Unread.{IsUnread}
use Rattle.c_source.specs.ReadsCondition.{ParsesExpression, ReadsCondition, SpellNoExpression, IsUncheckedCondition, IsConditionRefusal, IsConditionTextFault}
use Rattle.c_source.specs.ReadsCondition.{HasOneCondition, HasOneConditionRefusal, ReadConditionIsNotRefused, ConditionRefusalIsNoWant}
use Rattle.c_source.proofs.Answering.{IsDetermined}
use Rattle.c_source.proofs.Unread.{tokens_once, not_both, first_fault_once, first_fault-no_want, unread_once, unread-no_want, not_unread}

-- ---- refusals of the checker

pub check_refused : (func : Function) (text : List ℕ) (expr : RawExpression) → ParsesExpression text expr → (fault : CheckFault)
    → IsConditionFault func expr fault → IsConditionTextFault func text (of_check fault)
check_refused func text expr parses check.NoFunction reason = record { expr = expr; parses = parses; reason = reason; no_want = λ same. cc }
check_refused func text expr parses (check.ManyFunctions count) reason = record { expr = expr; parses = parses; reason = reason; no_want = λ same. cc }
check_refused func text expr parses (check.Undeclared name line) reason = record { expr = expr; parses = parses; reason = reason; no_want = λ same. cc }
check_refused func text expr parses (check.Twice name line) reason = record { expr = expr; parses = parses; reason = reason; no_want = λ same. cc }
check_refused func text expr parses (check.Outside line) reason = record { expr = expr; parses = parses; reason = reason; no_want = λ same. cc }
check_refused func text expr parses (check.MarkRange mark) reason = record { expr = expr; parses = parses; reason = reason; no_want = λ same. cc }
check_refused func text expr parses (check.MarkTwice mark) reason = record { expr = expr; parses = parses; reason = reason; no_want = λ same. cc }
check_refused func text expr parses (check.Divisor line) reason = record { expr = expr; parses = parses; reason = reason; no_want = λ same. cc }
check_refused func text expr parses (check.ManyVariables count) reason = record { expr = expr; parses = parses; reason = reason; no_want = λ same. cc }
check_refused func text expr parses check.Memory reason = tt

-- a fault that is no want of memory is the first
first_of : (func : Function) (expr : RawExpression) (fault : CheckFault) → fault ≢ check.Memory → IsConditionFault func expr fault
    → fault_in_condition func expr ≡ Some fault
first_of func expr check.NoFunction want reason = reason
first_of func expr (check.ManyFunctions count) want reason = reason
first_of func expr (check.Undeclared name line) want reason = reason
first_of func expr (check.Twice name line) want reason = reason
first_of func expr (check.Outside line) want reason = reason
first_of func expr (check.MarkRange mark) want reason = reason
first_of func expr (check.MarkTwice mark) want reason = reason
first_of func expr (check.Divisor line) want reason = reason
first_of func expr (check.ManyVariables count) want reason = reason
first_of func expr check.Memory want reason = absurd (want refl)

-- ---- one tree

parsed_once : (text : List ℕ) (first second : RawExpression) → ParsesExpression text first → ParsesExpression text second → first ≡ second
parsed_once text first second one other =
    let same = tokens_once text one.tokens other.tokens one.are other.are in
    expression-one other.tokens first second (subst (λ (tokens : List Token). SpellsExpression first tokens) same one.spells) other.spells

-- ---- a text that is read is not refused

some_expression : (text : List ℕ) (expr : RawExpression) (parses : ParsesExpression text expr) → ¬ SpellNoExpression parses.tokens
some_expression text expr parses none = let deeper = none expr parses.spells in let shallow = parses.shallow in omega arith

unread_parses : (text : List ℕ) (expr : RawExpression) (fault : ReadFault) → ParsesExpression text expr → IsUnread SpellNoExpression text fault → ⊥
unread_parses text expr fault parses =
    not_unread SpellNoExpression text parses.tokens fault parses.are parses.nested (some_expression text expr parses)

pub not_refused : ReadConditionIsNotRefused
not_refused func text made (refusal.Token fault) reads first = not_both text fault reads.parses.tokens first reads.parses.are
not_refused func text made (refusal.Reader fault) reads unread = unread_parses text reads.expr fault reads.parses unread
not_refused func text made (refusal.Check fault) reads unchecked =
    let same = parsed_once text unchecked.expr reads.expr unchecked.parses reads.parses in
    let first : fault_in_condition func reads.expr ≡ Some fault =
    subst (λ (expr : RawExpression). fault_in_condition func expr
    ≡ Some fault) same (first_of func unchecked.expr fault unchecked.no_want unchecked.reason) in
    let clash : None ≡ Some fault = sym reads.checks.faultless ∙ first in cc
not_refused func text made refusal.Memory reads none = none

-- ---- one condition

pub condition_once : HasOneCondition
condition_once func text one other reads also =
    let same = parsed_once text reads.expr also.expr reads.parses also.parses in
    one_expression one other (same_condition func also.expr (expression_of one) (expression_of other)
    (subst (λ (expr : RawExpression). IsCheckedCondition func expr (expression_of one)) same reads.checks) also.checks)

-- ---- one refusal

unchecked_once : (func : Function) (text : List ℕ) (one other : CheckFault) → IsUncheckedCondition func text one → IsUncheckedCondition func text other
    → one ≡ other
unchecked_once func text one other is also =
    let same = parsed_once text is.expr also.expr is.parses also.parses in
    let first : Some one ≡ Some other =
    sym (first_of func is.expr one is.no_want is.reason) ∙ ap (fault_in_condition func) same ∙ first_of func also.expr other also.no_want also.reason in
    cc

pub refusal_once : HasOneConditionRefusal
refusal_once func text (refusal.Token one) (refusal.Token other) is also =
    ap (λ (fault : TokenFault). refusal.Token fault) (first_fault_once text one other is also)
refusal_once func text (refusal.Token one) (refusal.Reader other) is also = absurd (not_both text one also.tokens is also.are)
refusal_once func text (refusal.Token one) (refusal.Check other) is also = absurd (not_both text one also.parses.tokens is also.parses.are)
refusal_once func text (refusal.Reader one) (refusal.Token other) is also = absurd (not_both text other is.tokens also is.are)
refusal_once func text (refusal.Reader one) (refusal.Reader other) is also =
    ap (λ (fault : ReadFault). refusal.Reader fault) (unread_once SpellNoExpression text one other is also)
refusal_once func text (refusal.Reader one) (refusal.Check other) is also = absurd (unread_parses text also.expr one also.parses is)
refusal_once func text (refusal.Check one) (refusal.Token other) is also = absurd (not_both text other is.parses.tokens also is.parses.are)
refusal_once func text (refusal.Check one) (refusal.Reader other) is also = absurd (unread_parses text is.expr other is.parses also)
refusal_once func text (refusal.Check one) (refusal.Check other) is also =
    ap (λ (fault : CheckFault). refusal.Check fault) (unchecked_once func text one other is also)
refusal_once func text refusal.Memory other is also = absurd is
refusal_once func text (refusal.Token one) refusal.Memory is also = absurd also
refusal_once func text (refusal.Reader one) refusal.Memory is also = absurd also
refusal_once func text (refusal.Check one) refusal.Memory is also = absurd also

pub refusal-no_want : ConditionRefusalIsNoWant
refusal-no_want func text (refusal.Token fault) is = first_fault-no_want text fault is
refusal-no_want func text (refusal.Reader fault) is = unread-no_want SpellNoExpression text fault is
refusal-no_want func text (refusal.Check fault) is = is.no_want
refusal-no_want func text refusal.Memory is = is

pub determined : (func : Function) (text : List ℕ) → IsDetermined Expr (ReadsCondition func text) (IsConditionRefusal func text)
determined func text = record { made_once = condition_once func text; refused_once = refusal_once func text; not_both = not_refused func text }
