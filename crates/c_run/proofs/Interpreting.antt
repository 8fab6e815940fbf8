-- The interpreter's steps, one after another, are those that the observer sees.
use Rattle.std.proofs.Common.{◌≡◌, ℕ, suc, Bool, true, false, cond, List, [], ◌∷◌, ◌++◌, length, Option, Some, None, ℤ, refl, sym, ap, ◌∙◌, subst, append_assoc, append-nil, slice_set}
use Rattle.c_ast.specs.declared.place.Place.TheVariants as place
use Rattle.c_ast.specs.declared.trace.Event.{Event}
use Rattle.c_run.specs.declared.interpreter.Item.{Item}
use Rattle.c_run.specs.declared.interpreter.Next.TheVariants as next
use Rattle.c_ast.specs.declared.trace.Outcome.{Outcome}
use Rattle.c_ast.specs.declared.trace.Outcome.TheVariants as outcome
use Rattle.c_ast.specs.Tree.{Expression, Statements, Nil, Set, If, Loop, Break, Continue, Return, Mark, Block, Program}
use Rattle.c_ast.specs.Value.{eval, is_nonzero}
use Rattle.c_ast.specs.Step as run
use Rattle.c_ast.specs.Step.{Scope, is_in, first_variables, LoopParts, Run, Test, Tail, Work, scope_of, values_in, past_tail, to_tail, tested, entered, turned, step, evaluated, start, spread, seen, seen_next}
use Rattle.c_ast.specs.Segment.{Follows}
use Rattle.c_ast.specs.Formed.{AreFormed, IsProgram}
use Rattle.c_run.specs.Within.{AreWithin, IsLoopWithin, IsWorkWithin}
use Rattle.c_run.specs.Shown.{work_of, bare, bare_next, TakesStep}
use Rattle.c_ast.specs.FitsRun.{evaluates_fitting}
use Rattle.c_ast.specs.Scope.{IsPlace}
use Rattle.c_ast.specs.Outcome.{with_first, at_event, returned, interpreted, or_cut_off, outcome_within}
use Rattle.c_run.specs.Event.{IsEvent}
use Rattle.c_ast.specs.Ahead.{IsAhead, IsAheadNext}
use Rattle.c_ast.specs.Environments.{IsBelow, HasLength}
use Rattle.c_ast.proofs.Laws.{marks_stay_ahead, marks_are_ahead_at_start, step_keeps_length, spread_has_length}
use Rattle.c_ast.proofs.Laws.{over_can_evaluate, set_can_evaluate, set_stays_below, parameters_are_below}

-- ---- scopes make no difference to a step, but at marks

bare-bare : (w : Work) → bare (bare w) ≡ bare w
bare-bare [] = refl
bare-bare (Run s c ∷ w) = ap (λ (z : Work). Run [] c ∷ z) (bare-bare w)
bare-bare (Test s l ∷ w) = ap (λ (z : Work). Test [] l ∷ z) (bare-bare w)
bare-bare (run.Cond s l ∷ w) = ap (λ (z : Work). run.Cond [] l ∷ z) (bare-bare w)
bare-bare (Tail s l ∷ w) = ap (λ (z : Work). Tail [] l ∷ z) (bare-bare w)

bare_past : (w : Work) → bare (past_tail (bare w)) ≡ bare (past_tail w)
bare_past [] = refl
bare_past (Run s c ∷ w) = bare_past w
bare_past (Test s l ∷ w) = bare_past w
bare_past (run.Cond s l ∷ w) = bare_past w
bare_past (Tail s l ∷ w) = bare-bare w

bare_to : (w : Work) → bare (to_tail (bare w)) ≡ bare (to_tail w)
bare_to [] = refl
bare_to (Run s c ∷ w) = bare_to w
bare_to (Test s l ∷ w) = bare_to w
bare_to (run.Cond s l ∷ w) = bare_to w
bare_to (Tail s l ∷ w) = ap (λ (z : Work). Tail [] l ∷ z) (bare-bare w)

bare_entered : (t : Bool) (s : Scope) (l : LoopParts) (c : Statements) (w : Work) → bare (entered t [] l (Run [] c ∷ bare w))
    ≡ bare (entered t s l (Run s c ∷ w))
bare_entered true s l c w = ap (λ (z : Work). Test [] l ∷ (Run [] c ∷ z)) (bare-bare w)
bare_entered false s l c w = ap (λ (z : Work). Run [] l.body ∷ (Tail [] l ∷ (Run [] c ∷ z))) (bare-bare w)

bare_turned : (t : Bool) (s : Scope) (l : LoopParts) (w : Work) → bare (turned t [] l (bare w)) ≡ bare (turned t s l w)
bare_turned true s l w = ap (λ (z : Work). Run [] l.body ∷ (Tail [] l ∷ z)) (bare-bare w)
bare_turned false s l w = bare-bare w

bare_tested : (m : Option ℕ) (s : Scope) (l : LoopParts) (w : Work) (env : List ℤ) → bare_next (tested m (run.Cond [] l ∷ bare w) env)
    ≡ bare_next (tested m (run.Cond s l ∷ w) env)
bare_tested None s l w env = ap (λ (z : Work). run.Goes (run.Cond [] l ∷ z) env) (bare-bare w)
bare_tested (Some k) s l w env = ap (λ (z : Work). run.Passes k (run.Cond [] l ∷ z) env) (bare-bare w)

bare_step : (w : Work) (env : List ℤ) → bare_next (step (bare w) env) ≡ bare_next (step w env)
bare_step [] env = refl
bare_step (Run s Nil ∷ w) env = ap (λ (z : Work). run.Goes z env) (bare-bare w)
bare_step (Run s (Set x e c) ∷ w) env = ap (λ (z : Work). run.Goes (Run [] c ∷ z) (slice_set env x (eval e env))) (bare-bare w)
bare_step (Run s (If e a b c) ∷ w) env = ap (λ (z : Work). run.Goes (Run [] (cond (is_nonzero (eval e env)) a b) ∷ (Run [] c ∷ z)) env) (bare-bare w)
bare_step (Run s (Loop m e b t f c) ∷ w) env = ap (λ (z : Work). run.Goes z env) (bare_entered f s (record { mark = m; cond = e; body = b; step = t }) c w)
bare_step (Run s (Break c) ∷ w) env = ap (λ (z : Work). run.Goes z env) (bare_past w)
bare_step (Run s (Continue c) ∷ w) env = ap (λ (z : Work). run.Goes z env) (bare_to w)
bare_step (Run s (Return e c) ∷ w) env = refl
bare_step (Run s (Mark k c) ∷ w) env = ap (λ (z : Work). run.Passes k (Run [] c ∷ z) env) (bare-bare w)
bare_step (Run s (Block a c) ∷ w) env = ap (λ (z : Work). run.Goes (Run [] a ∷ (Run [] c ∷ z)) env) (bare-bare w)
bare_step (Test s l ∷ w) env = bare_tested l.mark s l w env
bare_step (run.Cond s l ∷ w) env = ap (λ (z : Work). run.Goes z env) (bare_turned (is_nonzero (eval l.cond env)) s l w)
bare_step (Tail s l ∷ w) env = ap (λ (z : Work). run.Goes (Run [] l.step ∷ (Test [] l ∷ z)) env) (bare-bare w)

bare_evaluated : (w : Work) → evaluated (bare w) ≡ evaluated w
bare_evaluated [] = refl
bare_evaluated (Run s Nil ∷ w) = refl
bare_evaluated (Run s (Set x e c) ∷ w) = refl
bare_evaluated (Run s (If e a b c) ∷ w) = refl
bare_evaluated (Run s (Loop m e b t f c) ∷ w) = refl
bare_evaluated (Run s (Break c) ∷ w) = refl
bare_evaluated (Run s (Continue c) ∷ w) = refl
bare_evaluated (Run s (Return e c) ∷ w) = refl
bare_evaluated (Run s (Mark k c) ∷ w) = refl
bare_evaluated (Run s (Block a c) ∷ w) = refl
bare_evaluated (Test s l ∷ w) = refl
bare_evaluated (run.Cond s l ∷ w) = refl
bare_evaluated (Tail s l ∷ w) = refl

-- ---- work stays within the variables

within_past : (n : ℕ) (w : Work) → IsWorkWithin n w → IsWorkWithin n (past_tail w)
within_past n [] h = tt
within_past n (Run s c ∷ w) h = within_past n w h.1
within_past n (Test s l ∷ w) h = within_past n w h.1
within_past n (run.Cond s l ∷ w) h = within_past n w h.1
within_past n (Tail s l ∷ w) h = h.1

within_to : (n : ℕ) (w : Work) → IsWorkWithin n w → IsWorkWithin n (to_tail w)
within_to n [] h = tt
within_to n (Run s c ∷ w) h = within_to n w h.1
within_to n (Test s l ∷ w) h = within_to n w h.1
within_to n (run.Cond s l ∷ w) h = within_to n w h.1
within_to n (Tail s l ∷ w) h = h

abbrev NextWithin : ℕ → run.Next → Type 0
NextWithin n (run.Goes w env) = IsWorkWithin n w
NextWithin n (run.Passes k w env) = IsWorkWithin n w
NextWithin n (run.Ends v) = Unit {0}

within_if : (n : ℕ) (t : Bool) (s : Scope) (a b c : Statements) (w : Work) → AreWithin n a → AreWithin n b → AreWithin n c → IsWorkWithin n w
    → IsWorkWithin n (Run s (cond t a b) ∷ Run s c ∷ w)
within_if n true s a b c w p q r h = (p, (r, h))
within_if n false s a b c w p q r h = (q, (r, h))

within_entered : (n : ℕ) (t : Bool) (s : Scope) (l : LoopParts) (c : Statements) (w : Work) → IsLoopWithin n l → AreWithin n c → IsWorkWithin n w
    → IsWorkWithin n (entered t s l (Run s c ∷ w))
within_entered n true s l c w p q h = (p, (q, h))
within_entered n false s l c w p q h = (p.body, (p, (q, h)))

within_turned : (n : ℕ) (t : Bool) (s : Scope) (l : LoopParts) (w : Work) → IsLoopWithin n l → IsWorkWithin n w → IsWorkWithin n (turned t s l w)
within_turned n true s l w p h = (p.body, (p, h))
within_turned n false s l w p h = h

within_tested : (n : ℕ) (m : Option ℕ) (s : Scope) (l : LoopParts) (w : Work) (env : List ℤ) → IsLoopWithin n l → IsWorkWithin n w
    → NextWithin n (tested m (run.Cond s l ∷ w) env)
within_tested n None s l w env p h = (p, h)
within_tested n (Some k) s l w env p h = (p, h)

within_step : (n : ℕ) (w : Work) (env : List ℤ) → IsWorkWithin n w → NextWithin n (step w env)
within_step n [] env h = tt
within_step n (Run s Nil ∷ w) env h = h.1
within_step n (Run s (Set x e c) ∷ w) env h = (h.0.2, h.1)
within_step n (Run s (If e a b c) ∷ w) env h = within_if n (is_nonzero (eval e env)) s a b c w h.0.1 h.0.2 h.0.3 h.1
within_step n (Run s (Loop m e b t f c) ∷ w) env h =
    within_entered n f s (record { mark = m; cond = e; body = b; step = t }) c w (record { cond = h.0.0; body = h.0.1; step = h.0.2 }) h.0.3 h.1
within_step n (Run s (Break c) ∷ w) env h = within_past n w h.1
within_step n (Run s (Continue c) ∷ w) env h = within_to n w h.1
within_step n (Run s (Return e c) ∷ w) env h = tt
within_step n (Run s (Mark k c) ∷ w) env h = (h.0, h.1)
within_step n (Run s (Block a c) ∷ w) env h = (h.0.0, (h.0.1, h.1))
within_step n (Test s l ∷ w) env h = within_tested n l.mark s l w env h.0 h.1
within_step n (run.Cond s l ∷ w) env h = within_turned n (is_nonzero (eval l.cond env)) s l w h.0 h.1
within_step n (Tail s l ∷ w) env h = (h.0.step, (h.0, h.1))

bare_within : (n : ℕ) (w : Work) → IsWorkWithin n w → IsWorkWithin n (bare w)
bare_within n [] h = tt
bare_within n (Run s c ∷ w) h = (h.0, bare_within n w h.1)
bare_within n (Test s l ∷ w) h = (h.0, bare_within n w h.1)
bare_within n (run.Cond s l ∷ w) h = (h.0, bare_within n w h.1)
bare_within n (Tail s l ∷ w) h = (h.0, bare_within n w h.1)

-- ---- a program's statements are within its variables

formed_within : (c : Statements) (n : ℕ) (s : Scope) (in_loop : Bool) → IsBelow n s → AreFormed n s in_loop c → AreWithin n c
formed_within Nil n s in_loop b h = tt
formed_within (Set x e c) n s in_loop b h = (h.0, set_can_evaluate (is_in s x) e n s b h.1, formed_within c n (x ∷ s) in_loop (set_stays_below n x s h.0 b) h.2)
formed_within (If e p q c) n s in_loop b h =
    (over_can_evaluate e n s b h.0, formed_within p n s in_loop b h.1, formed_within q n s in_loop b h.2, formed_within c n s in_loop b h.3)
formed_within (Loop m e p t f c) n s in_loop b h =
    (over_can_evaluate e n s b h.0, formed_within p n s true b h.1, formed_within t n s in_loop b h.2, formed_within c n s in_loop b h.5)
formed_within (Break c) n s in_loop b h = formed_within c n s in_loop b h.1
formed_within (Continue c) n s in_loop b h = formed_within c n s in_loop b h.1
formed_within (Return e c) n s in_loop b h = (over_can_evaluate e n s b h.0, formed_within c n s in_loop b h.1)
formed_within (Mark k c) n s in_loop b h = formed_within c n s in_loop b h
formed_within (Block p c) n s in_loop b h = (formed_within p n s in_loop b h.0, formed_within c n s in_loop b h.1)

-- ---- the rest of a run

-- the events passed so far, in front of what comes of the rest
abbrev pub after_events : List Event → Option Outcome → Outcome
after_events events None = outcome.CutOff
after_events events (Some (outcome.Returned trace)) = outcome.Returned (record { events = events ++ trace.events; result = trace.result })
after_events events (Some outcome.Wide) = outcome.Wide
after_events events (Some outcome.CutOff) = outcome.CutOff

after_events-none : (o : Option Outcome) → or_cut_off o ≡ after_events [] o
after_events-none None = refl
after_events-none (Some (outcome.Returned trace)) = refl
after_events-none (Some outcome.Wide) = refl
after_events-none (Some outcome.CutOff) = refl

after_events-first : (events : List Event) (event : Event) (o : Option Outcome) → after_events events (with_first event o)
    ≡ after_events (events ++ event ∷ []) o
after_events-first events event None = refl
after_events-first events event (Some (outcome.Returned trace)) = ap (λ (l : List Event). outcome.Returned (record { events = l; result = trace.result }))
    (sym (append_assoc events (event ∷ []) trace.events))
after_events-first events event (Some outcome.Wide) = refl
after_events-first events event (Some outcome.CutOff) = refl

-- With this work and environment, and these events passed, the outcome is that of the steps that are left.
pub record Interprets (f : Program) (o : Outcome) (left : ℕ) (events : List Event) (items : List Item) (env : List ℤ) : Type 0 where
  pub work : Work
  pub bare_is : bare work ≡ work_of items
  pub placed : IsAhead f work
  pub within : IsWorkWithin f.vars work
  pub size : length env ≡ f.vars
  pub marks : ℕ
  pub rest : o ≡ after_events events (interpreted left marks work env)

pub begins : (f : Program) → IsProgram f → (inputs : List ℤ) (steps left : ℕ) (items : List Item) (env : List ℤ) → left ≡ steps → work_of items
    ≡ Run [] f.body ∷ []
    → env ≡ spread (first_variables f.params) f.vars inputs → Interprets f (outcome_within steps f inputs) left [] items env
begins f is inputs steps left items env left_is items_are env_is = record {
  work = start f;
  bare_is = sym items_are;
  placed = marks_are_ahead_at_start f;
  within = (formed_within f.body f.vars (first_variables f.params) false (parameters_are_below f.params f.vars is.parameters) is.formed, tt);
  size = ap length env_is ∙ spread_has_length (first_variables f.params) f.vars inputs;
  marks = 0;
  rest = rw (left_is, env_is) (after_events-none (interpreted steps 0 (start f) (spread (first_variables f.params) f.vars inputs)));
}

pub step_within : (f : Program) (o : Outcome) (left : ℕ) (events : List Event) (items : List Item) (env : List ℤ) → Interprets f o left events items env
    → IsWorkWithin (length env) (work_of items)
step_within f o left events items env i = rw i.size (subst (IsWorkWithin f.vars) i.bare_is (bare_within f.vars i.work i.within))

narrow_same : (w : Work) (items : List Item) (env : List ℤ) → bare w ≡ work_of items → evaluates_fitting (evaluated w) env
    ≡ evaluates_fitting (evaluated (work_of items)) env
narrow_same w items env is = ap (λ (e : Option Expression). evaluates_fitting e env) (sym (bare_evaluated w))
    ∙ ap (λ (z : Work). evaluates_fitting (evaluated z) env) is

step_same : (w : Work) (items : List Item) (env : List ℤ) → bare w ≡ work_of items → bare_next (step w env) ≡ bare_next (step (work_of items) env)
step_same w items env is = sym (bare_step w env) ∙ ap (λ (z : Work). bare_next (step z env)) is

abbrev RestOf : ℕ → ℕ → run.Next → Option Outcome
RestOf left marks x = seen_next evaluates_fitting (Some outcome.Wide) at_event returned (interpreted left) marks x

-- a step that is taken, as the run's
record Taken (f : Program) (o : Outcome) (left : ℕ) (events : List Event) (marks : ℕ) (x y : run.Next) : Type 0 where
  pub is : bare_next x ≡ y
  pub placed : IsAheadNext f x
  pub within : NextWithin f.vars x
  pub size : HasLength f.vars x
  pub rest : o ≡ after_events events (RestOf left marks x)

taken : (f : Program) (o : Outcome) (left left' : ℕ) (events : List Event) (items : List Item) (env : List ℤ) (y : run.Next) → left ≡ suc left'
    → (i : Interprets f o left events items env)
    → evaluates_fitting (evaluated (work_of items)) env ≡ true → bare_next (step (work_of items) env) ≡ y → Taken f o left' events i.marks (step i.work env) y
taken f o left left' events items env y left_is i narrow is = record {
  is = step_same i.work items env i.bare_is ∙ is;
  placed = marks_stay_ahead f i.work env i.placed;
  within = within_step f.vars i.work env i.within;
  size = step_keeps_length f.vars i.work env i.size;
  rest = i.rest ∙ ap (λ (n : ℕ). after_events events (interpreted n i.marks i.work env)) left_is
      ∙ ap (λ (t : Bool). after_events events (cond t (RestOf left' i.marks (step i.work env)) (Some outcome.Wide)))
      (narrow_same i.work items env i.bare_is ∙ narrow);
}

pub goes : (f : Program) (o : Outcome) (left left' : ℕ) (events : List Event) (items items' : List Item) (env env' : List ℤ) → left ≡ suc left'
    → Interprets f o left events items env
    → TakesStep (work_of items) env next.Goes (work_of items') env' → Interprets f o left' events items' env'
goes f o left left' events items items' env env' left_is i t = on (step i.work env)
    (taken f o left left' events items env (run.Goes (work_of items') env') left_is i t.0 t.1)
  where
    on : (x : run.Next) → Taken f o left' events i.marks x (run.Goes (work_of items') env') → Interprets f o left' events items' env'
    on (run.Goes w e) t =
        let is : run.Goes (bare w) e ≡ run.Goes (work_of items') env' = t.is in
        let bare_is : bare w ≡ work_of items' = cc in
        let env_is : e ≡ env' = cc in
        record {
          work = w;
          bare_is = bare_is;
          placed = t.placed;
          within = t.within;
          size = ap length (sym env_is) ∙ t.size;
          marks = i.marks;
          rest = t.rest
              ∙ ap (λ (z : List ℤ). after_events events (interpreted left' i.marks w z)) env_is;
        }
    on (run.Passes k w e) t = let is : run.Passes k (bare w) e ≡ run.Goes (work_of items') env' = t.is in cc
    on (run.Ends v) t = let is : run.Ends v ≡ run.Goes (work_of items') env' = t.is in cc

-- what is known where a mark is passed
pub record Passed (f : Program) (o : Outcome) (left : ℕ) (events : List Event) (mark : ℕ) (items : List Item) (env : List ℤ) : Type 0 where
  pub work : Work
  pub bare_is : bare work ≡ work_of items
  pub placed : IsAhead f work
  pub follows : Follows f mark work
  pub within : IsWorkWithin f.vars work
  pub size : length env ≡ f.vars
  pub marks : ℕ
  pub rest : o ≡ after_events (events ++ record { mark = mark; values = values_in (scope_of work) env } ∷ []) (interpreted left marks work env)

pub passes : (f : Program) (o : Outcome) (left left' : ℕ) (events : List Event) (mark : ℕ) (items items' : List Item) (env env' : List ℤ) → left ≡ suc left'
    → Interprets f o left events items env
    → TakesStep (work_of items) env (next.Passes mark) (work_of items') env' → Passed f o left' events mark items' env'
passes f o left left' events mark items items' env env' left_is i t = on (step i.work env)
    (taken f o left left' events items env (run.Passes mark (work_of items') env') left_is i t.0 t.1)
  where
    on : (x : run.Next) → Taken f o left' events i.marks x (run.Passes mark (work_of items') env') → Passed f o left' events mark items' env'
    on (run.Goes w e) t = let is : run.Goes (bare w) e ≡ run.Passes mark (work_of items') env' = t.is in cc
    on (run.Passes k w e) t =
        let is : run.Passes k (bare w) e ≡ run.Passes mark (work_of items') env' = t.is in
        let mark_is : k ≡ mark = cc in
        let bare_is : bare w ≡ work_of items' = cc in
        let env_is : e ≡ env' = cc in
        record {
          work = w;
          bare_is = bare_is;
          placed = t.placed.0;
          follows = subst (λ (j : ℕ). Follows f j w) mark_is t.placed.1;
          within = t.within;
          size = ap length (sym env_is) ∙ t.size;
          marks = suc i.marks;
          rest = t.rest ∙ after_events-first events (record { mark = k; values = values_in (scope_of w) e }) (interpreted left' (suc i.marks) w e)
              ∙ ap (λ (j : ℕ). after_events (events ++ record { mark = j; values = values_in (scope_of w) e } ∷ [])
              (interpreted left' (suc i.marks) w e)) mark_is
              ∙ ap (λ (z : List ℤ). after_events (events ++ record { mark = mark; values = values_in (scope_of w) z } ∷ [])
              (interpreted left' (suc i.marks) w z)) env_is;
        }
    on (run.Ends v) t = let is : run.Ends v ≡ run.Passes mark (work_of items') env' = t.is in cc

pub passed_place : (f : Program) (o : Outcome) (left : ℕ) (events : List Event) (mark : ℕ) (items : List Item) (env : List ℤ)
    → Passed f o left events mark items env → IsPlace f (place.Mark mark)
passed_place f o left events mark items env p = record { work = p.work; from = p.follows }

pub passed_on : (f : Program) (o : Outcome) (left : ℕ) (events : List Event) (mark : ℕ) (items : List Item) (env : List ℤ) (event : Event)
    → Passed f o left events mark items env → IsEvent f mark env event
    → Interprets f o left (events ++ event ∷ []) items env
passed_on f o left events mark items env event p is =
    let values : event.values ≡ values_in (scope_of p.work) env = is.values_are p.work p.follows in
    let event_is : event ≡ record { mark = mark; values = values_in (scope_of p.work) env } =
    ap (λ (j : ℕ). record { mark = j; values = event.values }) is.mark_is ∙ ap (λ (z : List ℤ). record { mark = mark; values = z }) values in
    record {
      work = p.work;
      bare_is = p.bare_is;
      placed = p.placed;
      within = p.within;
      size = p.size;
      marks = p.marks;
      rest = p.rest ∙ ap (λ (z : Event). after_events (events ++ z ∷ []) (interpreted left p.marks p.work env)) (sym event_is);
    }

pub ends : (f : Program) (o : Outcome) (left left' : ℕ) (events : List Event) (value : ℤ) (items : List Item) (new : Work) (env env' : List ℤ) → left
    ≡ suc left' → Interprets f o left events items env
    → TakesStep (work_of items) env (next.Ends value) new env' → outcome.Returned (record { events = events; result = value }) ≡ o
ends f o left left' events value items new env env' left_is i t = on (step i.work env)
    (taken f o left left' events items env (run.Ends value) left_is i t.0 t.1)
  where
    on : (x : run.Next) → Taken f o left' events i.marks x (run.Ends value) → outcome.Returned (record { events = events; result = value }) ≡ o
    on (run.Goes w e) t = let is : run.Goes (bare w) e ≡ run.Ends value = t.is in cc
    on (run.Passes k w e) t = let is : run.Passes k (bare w) e ≡ run.Ends value = t.is in cc
    on (run.Ends v) t =
        let is : run.Ends v ≡ run.Ends value = t.is in
        let value_is : v ≡ value = cc in
        sym (t.rest ∙ ap (λ (l : List Event). outcome.Returned (record { events = l; result = v })) (append-nil events)
        ∙ ap (λ (z : ℤ). outcome.Returned (record { events = events; result = z })) value_is)

pub meets_wide : (f : Program) (o : Outcome) (left left' : ℕ) (events : List Event) (items : List Item) (new : Work) (env env' : List ℤ) → left ≡ suc left'
    → Interprets f o left events items env
    → TakesStep (work_of items) env next.Wide new env' → outcome.Wide ≡ o
meets_wide f o left left' events items new env env' left_is i t =
    sym (i.rest ∙ ap (λ (n : ℕ). after_events events (interpreted n i.marks i.work env)) left_is
    ∙ ap (λ (t : Bool). after_events events (cond t (RestOf left' i.marks (step i.work env)) (Some outcome.Wide))) (narrow_same i.work items env i.bare_is ∙ t))

pub cut_off : (f : Program) (o : Outcome) (left : ℕ) (events : List Event) (items : List Item) (env : List ℤ) → left ≡ 0 → Interprets f o left events items env
    → outcome.CutOff ≡ o
cut_off f o left events items env left_is i = sym (i.rest ∙ ap (λ (n : ℕ). after_events events (interpreted n i.marks i.work env)) left_is)
