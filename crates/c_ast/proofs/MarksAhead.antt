-- The marks that stand in the work that is left: a step keeps them, and those of a function's work are the function's.
use Rattle.std.proofs.Common.{◌≡◌, ℕ, ℤ, Bool, true, false, cond, ◌⊎◌, inl, inr, List, [], ◌∷◌, Option, Some, None, refl, subst}
use Rattle.c_ast.specs.declared.place.Place.TheVariants as place
use Rattle.c_ast.specs.Tree.{Expression, Statements, Nil, Set, If, Loop, Break, Continue, Return, Mark, Block, Program}
use Rattle.c_ast.specs.Value.{eval, is_nonzero}
use Rattle.c_ast.specs.Step.{Scope, LoopParts, Item, Run, Test, Cond, Tail, Work, first_variables, past_tail, to_tail, tested, entered, turned, step}
use Rattle.c_ast.specs.Segment.{StandsIn, Follows}
use Rattle.c_ast.specs.Ahead.{WorkHas, IsAhead, IsAheadNext, MarksAreAhead, MarksAreAheadAtStart, MarksStayAhead}

-- Each mark of the later work stands in the earlier one, with the same work behind it.
pub record Keeps (earlier later : Work) : Type 0 where
  pub by : (mark : ℕ) (after : Work) → WorkHas later mark after → WorkHas earlier mark after

pub ahead_kept : (f : Program) (earlier later : Work) → Keeps earlier later → IsAhead f earlier → IsAhead f later
ahead_kept f earlier later keeps ahead = record { by = λ mark after has. ahead.by mark after (keeps.by mark after has) }

pub keeps-past_tail : (work : Work) → Keeps work (past_tail work)
keeps-past_tail [] = record { by = λ mark after has. has }
keeps-past_tail (Run scope stmts ∷ work) = record { by = λ mark after has. inr ((keeps-past_tail work).by mark after has) }
keeps-past_tail (Test scope loop ∷ work) = record { by = λ mark after has. inr ((keeps-past_tail work).by mark after has) }
keeps-past_tail (Cond scope loop ∷ work) = record { by = λ mark after has. inr ((keeps-past_tail work).by mark after has) }
keeps-past_tail (Tail scope loop ∷ work) = record { by = λ mark after has. inr has }

pub keeps-to_tail : (work : Work) → Keeps work (to_tail work)
keeps-to_tail [] = record { by = λ mark after has. has }
keeps-to_tail (Run scope stmts ∷ work) = record { by = λ mark after has. inr ((keeps-to_tail work).by mark after has) }
keeps-to_tail (Test scope loop ∷ work) = record { by = λ mark after has. inr ((keeps-to_tail work).by mark after has) }
keeps-to_tail (Cond scope loop ∷ work) = record { by = λ mark after has. inr ((keeps-to_tail work).by mark after has) }
keeps-to_tail (Tail scope loop ∷ work) = record { by = λ mark after has. has }

pub keeps_below : (item : Item) (work : Work) → Keeps (item ∷ work) work
keeps_below item work = record { by = λ mark after has. inr has }

pub keeps_both : (a b c : Work) → Keeps a b → Keeps b c → Keeps a c
keeps_both a b c first second = record { by = λ mark after has. first.by mark after (second.by mark after has) }

pub keeps_set : (scope : Scope) (x : ℕ) (e : Expression) (others : Statements) (work : Work)
    → Keeps (Run scope (Set x e others) ∷ work) (Run (x ∷ scope) others ∷ work)
keeps_set scope x e others work = record { by = λ mark after has. has }

pub keeps_branch : (t : Bool) (scope : Scope) (e : Expression) (a b others : Statements) (work : Work)
    → Keeps (Run scope (If e a b others) ∷ work) (Run scope (cond t a b) ∷ Run scope others ∷ work)
keeps_branch true scope e a b others work = record {
  by = λ mark after. elim [ inl has ↦ inl (inl has) | inr (inl has) ↦ inl (inr (inr has)) | inr (inr has) ↦ inr has ];
}
keeps_branch false scope e a b others work = record {
  by = λ mark after. elim [ inl has ↦ inl (inr (inl has)) | inr (inl has) ↦ inl (inr (inr has)) | inr (inr has) ↦ inr has ];
}

pub keeps-entered : (first : Bool) (scope : Scope) (own : Option ℕ) (e : Expression) (body step others : Statements) (work : Work)
    → Keeps (Run scope (Loop own e body step first others) ∷ work)
    (entered first scope (record { mark = own; cond = e; body = body; step = step }) (Run scope others ∷ work))
keeps-entered true scope own e body step others work = record {
  by = λ mark after. elim [
    | inl (inl has) ↦ inl (inl has)
    | inl (inr (inl has)) ↦ inl (inr (inl has))
    | inl (inr (inr has)) ↦ inl (inr (inr (inl has)))
    | inr (inl has) ↦ inl (inr (inr (inr has)))
    | inr (inr has) ↦ inr has
  ];
}
keeps-entered false scope own e body step others work = record {
  by = λ mark after. elim [
    | inl has ↦ inl (inr (inl has))
    | inr (inl (inl has)) ↦ inl (inl has)
    | inr (inl (inr (inl has))) ↦ inl (inr (inl has))
    | inr (inl (inr (inr has))) ↦ inl (inr (inr (inl has)))
    | inr (inr (inl has)) ↦ inl (inr (inr (inr has)))
    | inr (inr (inr has)) ↦ inr has
  ];
}

pub keeps-turned : (t : Bool) (scope : Scope) (loop : LoopParts) (work : Work)
    → Keeps (Cond scope loop ∷ work) (turned t scope loop work)
keeps-turned true scope loop work = record { by = λ mark after. elim [ inl has ↦ inl (inr (inl has)) | inr has ↦ has ] }
keeps-turned false scope loop work = record { by = λ mark after has. inr has }

pub keeps_tested : (scope : Scope) (loop : LoopParts) (work : Work) → Keeps (Test scope loop ∷ work) (Cond scope loop ∷ work)
keeps_tested scope loop work = record { by = λ mark after has. has }

pub keeps_tail : (scope : Scope) (loop : LoopParts) (work : Work)
    → Keeps (Tail scope loop ∷ work) (Run scope loop.step ∷ Test scope loop ∷ work)
keeps_tail scope loop work = record { by = λ mark after. elim [ inl has ↦ inl (inr (inr has)) | inr has ↦ has ] }

pub keeps_mark : (own : ℕ) (scope : Scope) (others : Statements) (work : Work)
    → Keeps (Run scope (Mark own others) ∷ work) (Run scope others ∷ work)
keeps_mark own scope others work = record { by = λ mark after. elim [ inl has ↦ inl (inr has) | inr has ↦ inr has ] }

pub keeps_block : (scope : Scope) (a others : Statements) (work : Work)
    → Keeps (Run scope (Block a others) ∷ work) (Run scope a ∷ Run scope others ∷ work)
keeps_block scope a others work = record {
  by = λ mark after. elim [ inl has ↦ inl (inl has) | inr (inl has) ↦ inl (inr has) | inr (inr has) ↦ inr has ];
}

pub ahead_at_start : MarksAreAheadAtStart
ahead_at_start f = record { by = λ mark after. elim [ inl has ↦ has | inr has ↦ absurd has ] }

ahead-tested : (f : Program) (own : Option ℕ) (scope : Scope) (loop : LoopParts) (work : Work) (env : List ℤ) → loop.mark ≡ own
    → IsAhead f (Test scope loop ∷ work) → IsAheadNext f (tested own (Cond scope loop ∷ work) env)
ahead-tested f None scope loop work env is ahead = ahead_kept f _ _ (keeps_tested scope loop work) ahead
ahead-tested f (Some mark) scope loop work env is ahead =
    (ahead_kept f _ _ (keeps_tested scope loop work) ahead, ahead.by mark _ (inl (inl (is, refl))))

pub ahead_next : MarksStayAhead
ahead_next f [] env ahead = tt
ahead_next f (Run scope Nil ∷ work) env ahead = ahead_kept f _ _ (keeps_below (Run scope Nil) work) ahead
ahead_next f (Run scope (Set x e others) ∷ work) env ahead = ahead_kept f _ _ (keeps_set scope x e others work) ahead
ahead_next f (Run scope (If e a b others) ∷ work) env ahead =
    ahead_kept f _ _ (keeps_branch (is_nonzero (eval e env)) scope e a b others work) ahead
ahead_next f (Run scope (Loop own e body tail first others) ∷ work) env ahead =
    ahead_kept f _ _ (keeps-entered first scope own e body tail others work) ahead
ahead_next f (Run scope (Break others) ∷ work) env ahead =
    ahead_kept f _ _ (keeps_both _ _ _ (keeps_below (Run scope (Break others)) work) (keeps-past_tail work)) ahead
ahead_next f (Run scope (Continue others) ∷ work) env ahead =
    ahead_kept f _ _ (keeps_both _ _ _ (keeps_below (Run scope (Continue others)) work) (keeps-to_tail work)) ahead
ahead_next f (Run scope (Return e others) ∷ work) env ahead = tt
ahead_next f (Run scope (Mark own others) ∷ work) env ahead =
    (ahead_kept f _ _ (keeps_mark own scope others work) ahead, ahead.by own _ (inl (inl (refl, refl))))
ahead_next f (Run scope (Block a others) ∷ work) env ahead = ahead_kept f _ _ (keeps_block scope a others work) ahead
ahead_next f (Test scope loop ∷ work) env ahead = ahead-tested f loop.mark scope loop work env refl ahead
ahead_next f (Cond scope loop ∷ work) env ahead = ahead_kept f _ _ (keeps-turned (is_nonzero (eval loop.cond env)) scope loop work) ahead
ahead_next f (Tail scope loop ∷ work) env ahead = ahead_kept f _ _ (keeps_tail scope loop work) ahead

-- ---- the marks ahead of the work right after a mark

-- Each mark ahead of the work behind a mark of the statements stands in the statements, or in the work behind these.
stands_ahead : (stmts : Statements) (scope : Scope) (work : Work) (mark : ℕ) (after : Work) → StandsIn scope stmts work mark after
    → (own : ℕ) (later : Work) → WorkHas after own later → StandsIn scope stmts work own later ⊎ WorkHas work own later
stands_ahead Nil scope work mark after stands own later has = absurd stands
stands_ahead (Set x e others) scope work mark after stands own later has = stands_ahead others (x ∷ scope) work mark after stands own later has
stands_ahead (If e a b others) scope work mark after (inl stands) own later has =
    elim (stands_ahead a scope (Run scope others ∷ work) mark after stands own later has) [
      | inl in_a ↦ inl (inl in_a)
      | inr (inl behind) ↦ inl (inr (inr behind))
      | inr (inr below) ↦ inr below
    ]
stands_ahead (If e a b others) scope work mark after (inr (inl stands)) own later has =
    elim (stands_ahead b scope (Run scope others ∷ work) mark after stands own later has) [
      | inl in_b ↦ inl (inr (inl in_b))
      | inr (inl behind) ↦ inl (inr (inr behind))
      | inr (inr below) ↦ inr below
    ]
stands_ahead (If e a b others) scope work mark after (inr (inr stands)) own later has =
    elim (stands_ahead others scope work mark after stands own later has) [ inl behind ↦ inl (inr (inr behind)) | inr below ↦ inr below ]
stands_ahead (Loop at e body tail first others) scope work mark after (inl stands) own later has =
    elim (subst (λ (w : Work). WorkHas w own later) stands.1 has) [
      | inl (inl at_test) ↦ inl (inl at_test)
      | inl (inr (inl in_body)) ↦ inl (inr (inl in_body))
      | inl (inr (inr in_tail)) ↦ inl (inr (inr (inl in_tail)))
      | inr (inl behind) ↦ inl (inr (inr (inr behind)))
      | inr (inr below) ↦ inr below
    ]
stands_ahead (Loop at e body tail first others) scope work mark after (inr (inl stands)) own later has =
    elim (stands_ahead body scope _ mark after stands own later has) [
      | inl in_body ↦ inl (inr (inl in_body))
      | inr (inl (inl at_test)) ↦ inl (inl at_test)
      | inr (inl (inr (inl in_body))) ↦ inl (inr (inl in_body))
      | inr (inl (inr (inr in_tail))) ↦ inl (inr (inr (inl in_tail)))
      | inr (inr (inl behind)) ↦ inl (inr (inr (inr behind)))
      | inr (inr (inr below)) ↦ inr below
    ]
stands_ahead (Loop at e body tail first others) scope work mark after (inr (inr (inl stands))) own later has =
    elim (stands_ahead tail scope _ mark after stands own later has) [
      | inl in_tail ↦ inl (inr (inr (inl in_tail)))
      | inr (inl (inl at_test)) ↦ inl (inl at_test)
      | inr (inl (inr (inl in_body))) ↦ inl (inr (inl in_body))
      | inr (inl (inr (inr in_tail))) ↦ inl (inr (inr (inl in_tail)))
      | inr (inr (inl behind)) ↦ inl (inr (inr (inr behind)))
      | inr (inr (inr below)) ↦ inr below
    ]
stands_ahead (Loop at e body tail first others) scope work mark after (inr (inr (inr stands))) own later has =
    elim (stands_ahead others scope work mark after stands own later has) [ inl behind ↦ inl (inr (inr (inr behind))) | inr below ↦ inr below ]
stands_ahead (Break others) scope work mark after stands own later has = stands_ahead others scope work mark after stands own later has
stands_ahead (Continue others) scope work mark after stands own later has = stands_ahead others scope work mark after stands own later has
stands_ahead (Return e others) scope work mark after stands own later has = stands_ahead others scope work mark after stands own later has
stands_ahead (Mark at others) scope work mark after (inl stands) own later has =
    elim (subst (λ (w : Work). WorkHas w own later) stands.1 has) [ inl behind ↦ inl (inr behind) | inr below ↦ inr below ]
stands_ahead (Mark at others) scope work mark after (inr stands) own later has =
    elim (stands_ahead others scope work mark after stands own later has) [ inl behind ↦ inl (inr behind) | inr below ↦ inr below ]
stands_ahead (Block a others) scope work mark after (inl stands) own later has =
    elim (stands_ahead a scope (Run scope others ∷ work) mark after stands own later has) [
      | inl in_a ↦ inl (inl in_a)
      | inr (inl behind) ↦ inl (inr behind)
      | inr (inr below) ↦ inr below
    ]
stands_ahead (Block a others) scope work mark after (inr stands) own later has =
    elim (stands_ahead others scope work mark after stands own later has) [ inl behind ↦ inl (inr behind) | inr below ↦ inr below ]

pub ahead_after : (f : Program) (mark : ℕ) (after : Work) → Follows f mark after → IsAhead f after
ahead_after f mark after follows = record {
  by = λ own later has. elim
      (stands_ahead f.body (first_variables f.params) [] mark after follows own later has) [ inl in_body ↦ in_body | inr nowhere ↦ absurd nowhere ];
}

-- where a run goes on from a place, the marks ahead are the function's
pub ahead_from : MarksAreAhead
ahead_from f place.Entry work from = rw from (ahead_at_start f)
ahead_from f (place.Mark mark) work from = ahead_after f mark work from
ahead_from f place.Exit work from = absurd from
