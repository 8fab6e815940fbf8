-- Work whose scopes hold those of the work below, and whose expressions read variables in scope alone.
use Rattle.std.proofs.Common.{ℕ, Bool, true, false, [], ◌∷◌, pos, subst, sym, arith}
use Rattle.std.specs.Prelude.{◌≤ℤ◌}
use Rattle.std.proofs.lemmas.Int.{ints}
use Rattle.c_ast.specs.Tree.{Expression, Statements, Nil, Set, If, Loop, Break, Continue, Return, Mark, Block}
use Rattle.c_ast.specs.Step.{Scope, is_in, Run, Test, Cond, Tail, Work, item_scope, past_tail, to_tail}
use Rattle.c_ast.specs.Formed.{IsOver, IsSet, AreFormed}
use Rattle.c_ast.specs.Agreement.{Within, ReadsInScope, Nested}
use Rattle.c_ast.proofs.Agreeing.{within_both}

set_reads : (in_scope : Bool) (scope : Scope) (e : Expression) → IsSet in_scope scope e → IsOver scope e
set_reads true scope e is = is
set_reads false scope e is = let zero_is : pos 0 ≤ℤ pos 0 = omega (arith, ints) in subst (IsOver scope) (sym is) zero_is

-- Statements that are well formed read variables in scope alone.
pub formed_reads : (stmts : Statements) (n : ℕ) (scope : Scope) (in_loop : Bool) → AreFormed n scope in_loop stmts
    → ReadsInScope scope stmts
formed_reads Nil n scope in_loop is = tt
formed_reads (Set x e others) n scope in_loop is = (set_reads (is_in scope x) scope e is.1, formed_reads others n (x ∷ scope) in_loop is.2)
formed_reads (If e a b others) n scope in_loop is =
    (is.0, formed_reads a n scope in_loop is.1, formed_reads b n scope in_loop is.2, formed_reads others n scope in_loop is.3)
formed_reads (Loop mark cond body step test_first others) n scope in_loop is =
    (is.0, formed_reads body n scope true is.1, formed_reads step n scope in_loop is.2, formed_reads others n scope in_loop is.5)
formed_reads (Break others) n scope in_loop is = formed_reads others n scope in_loop is.1
formed_reads (Continue others) n scope in_loop is = formed_reads others n scope in_loop is.1
formed_reads (Return e others) n scope in_loop is = (is.0, formed_reads others n scope in_loop is.1)
formed_reads (Mark mark others) n scope in_loop is = formed_reads others n scope in_loop is
formed_reads (Block a others) n scope in_loop is = (formed_reads a n scope in_loop is.0, formed_reads others n scope in_loop is.1)

pub nested_within : (work : Work) (inner outer : Scope) → Within inner outer → Nested inner work → Nested outer work
nested_within [] inner outer within is = tt
nested_within (item ∷ work) inner outer within is = (within_both (item_scope item) inner outer is.0 within, is.1, is.2)

pub nested-past_tail : (work : Work) (scope : Scope) → Nested scope work → Nested scope (past_tail work)
nested-past_tail [] scope is = tt
nested-past_tail (Run inner stmts ∷ work) scope is = nested-past_tail work scope (nested_within work inner scope is.0 is.2)
nested-past_tail (Test inner loop ∷ work) scope is = nested-past_tail work scope (nested_within work inner scope is.0 is.2)
nested-past_tail (Cond inner loop ∷ work) scope is = nested-past_tail work scope (nested_within work inner scope is.0 is.2)
nested-past_tail (Tail inner loop ∷ work) scope is = nested_within work inner scope is.0 is.2

pub nested-to_tail : (work : Work) (scope : Scope) → Nested scope work → Nested scope (to_tail work)
nested-to_tail [] scope is = tt
nested-to_tail (Run inner stmts ∷ work) scope is = nested-to_tail work scope (nested_within work inner scope is.0 is.2)
nested-to_tail (Test inner loop ∷ work) scope is = nested-to_tail work scope (nested_within work inner scope is.0 is.2)
nested-to_tail (Cond inner loop ∷ work) scope is = nested-to_tail work scope (nested_within work inner scope is.0 is.2)
nested-to_tail (Tail inner loop ∷ work) scope is = is
