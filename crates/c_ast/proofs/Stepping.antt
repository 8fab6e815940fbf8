-- One step from two environments that agree on the variables in scope does the same in both.
use Rattle.std.proofs.Common.{◌≡◌, ℕ, Bool, true, false, cond, inl, List, [], ◌∷◌, Option, Some, None, ℤ, refl, ap}
use Rattle.c_ast.specs.Tree.{Expression, Statements, Nil, Set, If, Loop, Break, Continue, Return, Mark, Block, Program}
use Rattle.c_ast.specs.Value.{eval, is_nonzero}
use Rattle.c_ast.specs.Step.{Scope, LoopParts, Run, Test, Cond, Tail, Work, Goes, tested, entered, turned, step}
use Rattle.c_ast.specs.Agreement.{Agree, Nested, IsReady, AreAlike}
use Rattle.c_ast.proofs.Agreeing.{within_itself, within_more, agree_within, eval_agree, agree_set}
use Rattle.c_ast.proofs.Nesting.{nested_within, nested-past_tail, nested-to_tail}
use Rattle.c_ast.specs.Ahead.{IsAhead}
use Rattle.c_ast.proofs.MarksAhead.{Keeps, ahead_kept, keeps-past_tail, keeps-to_tail, keeps_below, keeps_both, keeps_set, keeps_branch, keeps-entered, keeps-turned, keeps_tested, keeps_tail, keeps_mark, keeps_block}

nested_branch : (scope : Scope) (e : Expression) (a b others : Statements) (work : Work) (outer : Scope)
    → Nested outer (Run scope (If e a b others) ∷ work) → (t : Bool)
    → Nested scope (Run scope (cond t a b) ∷ Run scope others ∷ work)
nested_branch scope e a b others work outer is true = (within_itself scope, is.1.1, (within_itself scope, is.1.3, is.2))
nested_branch scope e a b others work outer is false = (within_itself scope, is.1.2, (within_itself scope, is.1.3, is.2))

nested-entered : (first : Bool) (scope : Scope) (own : Option ℕ) (e : Expression) (body tail others : Statements) (work : Work) (outer : Scope)
    → Nested outer (Run scope (Loop own e body tail first others) ∷ work)
    → Nested scope (entered first scope (record { mark = own; cond = e; body = body; step = tail }) (Run scope others ∷ work))
nested-entered true scope own e body tail others work outer is =
    (within_itself scope, (is.1.0, is.1.1, is.1.2), (within_itself scope, is.1.3, is.2))
nested-entered false scope own e body tail others work outer is =
    (within_itself scope, is.1.1, (within_itself scope, (is.1.0, is.1.1, is.1.2), (within_itself scope, is.1.3, is.2)))

nested-turned : (scope : Scope) (loop : LoopParts) (work : Work) (outer : Scope)
    → Nested outer (Cond scope loop ∷ work) → (t : Bool) → Nested scope (turned t scope loop work)
nested-turned scope loop work outer is true = (within_itself scope, is.1.1, (within_itself scope, is.1, is.2))
nested-turned scope loop work outer is false = is.2

module _ (f : Program) where
  -- A value that both environments give decides between two branches.
  branch_alike : (branch : Bool → Work) (scope : Scope) (work : Work) (a b : List ℤ) (u v : ℤ) → u ≡ v
      → Agree f.vars scope a b → IsAhead f work
      → ((t : Bool) → Nested scope (branch t)) → ((t : Bool) → Keeps work (branch t))
      → AreAlike f (Goes (branch (is_nonzero u)) a) (Goes (branch (is_nonzero v)) b)
  branch_alike branch scope work a b u v e agree ahead nested keeps = (
    ap (λ (z : ℤ). branch (is_nonzero z)) e,
    scope,
    record { nested = nested (is_nonzero u); agree = agree; ahead = ahead_kept f work (branch (is_nonzero u)) (keeps (is_nonzero u)) ahead },
  )

  test_alike : (own : Option ℕ) (scope : Scope) (loop : LoopParts) (work : Work) (a b : List ℤ) → loop.mark ≡ own
      → IsReady f scope (Test scope loop ∷ work) a b
      → AreAlike f (tested own (Cond scope loop ∷ work) a) (tested own (Cond scope loop ∷ work) b)
  test_alike None scope loop work a b e is =
      (refl, scope, record { nested = is.nested; agree = is.agree; ahead = ahead_kept f _ _ (keeps_tested scope loop work) is.ahead })
  test_alike (Some mark) scope loop work a b e is = (
    refl,
    refl,
    record { nested = is.nested; agree = is.agree; ahead = ahead_kept f _ _ (keeps_tested scope loop work) is.ahead },
    is.ahead.by mark _ (inl (inl (e, refl))),
  )

  pub step_alike : (work : Work) (outer : Scope) (a b : List ℤ) → IsReady f outer work a b
      → AreAlike f (step work a) (step work b)
  step_alike [] outer a b is = refl
  step_alike (Run scope Nil ∷ work) outer a b is = (
    refl,
    scope,
    record {
      nested = is.nested.2;
      agree = agree_within f.vars scope outer a b is.nested.0 is.agree;
      ahead = ahead_kept f _ _ (keeps_below (Run scope Nil) work) is.ahead;
    },
  )
  step_alike (Run scope (Set x e others) ∷ work) outer a b is =
      let agree = agree_within f.vars scope outer a b is.nested.0 is.agree in (
        refl,
        x ∷ scope,
        record {
          nested = (within_itself (x ∷ scope), is.nested.1.1, nested_within work scope (x ∷ scope) (within_more x scope) is.nested.2);
          agree = agree_set f.vars scope a b x (eval e a) (eval e b) (eval_agree e f.vars scope a b agree is.nested.1.0) agree;
          ahead = ahead_kept f _ _ (keeps_set scope x e others work) is.ahead;
        },
      )
  step_alike (Run scope (If e x y others) ∷ work) outer a b is =
      let agree = agree_within f.vars scope outer a b is.nested.0 is.agree in
      branch_alike (λ t. Run scope (cond t x y) ∷ Run scope others ∷ work) scope (Run scope (If e x y others) ∷ work) a b (eval e a) (eval e b)
      (eval_agree e f.vars scope a b agree is.nested.1.0) agree is.ahead (nested_branch scope e x y others work outer is.nested)
      (λ t. keeps_branch t scope e x y others work)
  step_alike (Run scope (Loop own e body tail first others) ∷ work) outer a b is = (
    refl,
    scope,
    record {
      nested = nested-entered first scope own e body tail others work outer is.nested;
      agree = agree_within f.vars scope outer a b is.nested.0 is.agree;
      ahead = ahead_kept f _ _ (keeps-entered first scope own e body tail others work) is.ahead;
    },
  )
  step_alike (Run scope (Break others) ∷ work) outer a b is = (
    refl,
    scope,
    record {
      nested = nested-past_tail work scope is.nested.2;
      agree = agree_within f.vars scope outer a b is.nested.0 is.agree;
      ahead = ahead_kept f _ _ (keeps_both _ _ _ (keeps_below (Run scope (Break others)) work) (keeps-past_tail work)) is.ahead;
    },
  )
  step_alike (Run scope (Continue others) ∷ work) outer a b is = (
    refl,
    scope,
    record {
      nested = nested-to_tail work scope is.nested.2;
      agree = agree_within f.vars scope outer a b is.nested.0 is.agree;
      ahead = ahead_kept f _ _ (keeps_both _ _ _ (keeps_below (Run scope (Continue others)) work) (keeps-to_tail work)) is.ahead;
    },
  )
  step_alike (Run scope (Return e others) ∷ work) outer a b is =
      eval_agree e f.vars scope a b (agree_within f.vars scope outer a b is.nested.0 is.agree) is.nested.1.0
  step_alike (Run scope (Mark own others) ∷ work) outer a b is = (
    refl,
    refl,
    record {
      nested = (within_itself scope, is.nested.1, is.nested.2);
      agree = agree_within f.vars scope outer a b is.nested.0 is.agree;
      ahead = ahead_kept f _ _ (keeps_mark own scope others work) is.ahead;
    },
    is.ahead.by own _ (inl (inl (refl, refl))),
  )
  step_alike (Run scope (Block x others) ∷ work) outer a b is = (
    refl,
    scope,
    record {
      nested = (within_itself scope, is.nested.1.0, (within_itself scope, is.nested.1.1, is.nested.2));
      agree = agree_within f.vars scope outer a b is.nested.0 is.agree;
      ahead = ahead_kept f _ _ (keeps_block scope x others work) is.ahead;
    },
  )
  step_alike (Test scope loop ∷ work) outer a b is = test_alike loop.mark scope loop work a b refl (record {
    nested = (within_itself scope, is.nested.1, is.nested.2);
    agree = agree_within f.vars scope outer a b is.nested.0 is.agree;
    ahead = is.ahead;
  })
  step_alike (Cond scope loop ∷ work) outer a b is =
      let agree = agree_within f.vars scope outer a b is.nested.0 is.agree in
      branch_alike (λ t. turned t scope loop work) scope (Cond scope loop ∷ work) a b (eval loop.cond a) (eval loop.cond b)
      (eval_agree loop.cond f.vars scope a b agree is.nested.1.0) agree is.ahead (nested-turned scope loop work outer is.nested)
      (λ t. keeps-turned t scope loop work)
  step_alike (Tail scope loop ∷ work) outer a b is = (
    refl,
    scope,
    record {
      nested = (within_itself scope, is.nested.1.2, (within_itself scope, is.nested.1, is.nested.2));
      agree = agree_within f.vars scope outer a b is.nested.0 is.agree;
      ahead = ahead_kept f _ _ (keeps_tail scope loop work) is.ahead;
    },
  )
