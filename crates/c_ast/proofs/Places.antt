-- The values with which a run meets a place fit it, and so do those of a trace.
use Rattle.std.proofs.Common.{◌≡◌, ℕ, zero, suc, ◌≤◌, List, [], ◌∷◌, length, All, Option, Some, None, ℤ, refl, sym, ap, ◌∙◌, subst, arith}
use Rattle.std.proofs.lemmas.List.Elements.{All-cons}
use Rattle.c_ast.specs.declared.place.Place.{Place}
use Rattle.c_ast.specs.declared.place.Place.TheVariants as place
use Rattle.c_ast.specs.declared.trace.Trace.{Trace}
use Rattle.c_ast.specs.Tree.{Program}
use Rattle.c_ast.specs.Step.{Work, scope_of, values_in, first_variables, Next, Goes, Passes, Ends, step, start, spread, seen_next, seen}
use Rattle.c_ast.specs.Returns.{always}
use Rattle.c_ast.specs.Trace.{with_event, no_event}
use Rattle.c_ast.specs.Segment.{Follows, FitsPlace, at_mark, at_exit, met_within}
use Rattle.c_ast.specs.Laws.{FittingValuesAreAsMany, EntryIsNotMet, ExitIsLast, MeetsFittingValues, FitsEvent, TraceFits}
use Rattle.c_ast.specs.Ahead.{IsAhead, IsAheadNext}
use Rattle.c_ast.proofs.MarksAhead.{ahead_next, ahead_at_start, ahead_from}
use Rattle.c_ast.specs.Environments.{HasLength}
use Rattle.c_ast.proofs.Following.{follows_once}
use Rattle.c_ast.proofs.Lengths.{length-values_from, length-spread, values_from-few, length-step}

-- the values in scope after a mark of the function fit it
values_fit : (f : Program) (mark : ℕ) (work : Work) (env : List ℤ) → Follows f mark work → length env ≡ f.vars
    → FitsPlace f (place.Mark mark) (values_in (scope_of work) env)
values_fit f mark work env follows long =
    (work, follows, length-values_from (scope_of work) 0 env (spread [] f.vars []) (long ∙ sym (length-spread [] f.vars [])))

-- ---- segments

abbrev Met : Type 0
Met = Place × List ℤ

meets_fitting : (f : Program) (n : ℕ) (work : Work) (env : List ℤ) (l : Place) (e : List ℤ) → IsAhead f work → length env ≡ f.vars
    → met_within n work env ≡ Some (l, e) → FitsPlace f l e
meets_fitting f zero work env l e ahead long met = cc
meets_fitting f (suc n) work env l e ahead long met =
    on (step work env) (ahead_next f work env ahead) (length-step f.vars work env long) met (λ work env. meets_fitting f n work env l e)
  where
    on : (next : Next) → IsAheadNext f next → HasLength f.vars next → seen_next always None at_mark at_exit (seen always None at_mark at_exit n) 0 next
        ≡ Some (l, e)
        → ((work : Work) (env : List ℤ) → IsAhead f work → length env ≡ f.vars → met_within n work env ≡ Some (l, e) → FitsPlace f l e) → FitsPlace f l e
    on (Goes work env) ahead long met later = later work env ahead long met
    on (Passes mark work env) ahead long met later =
        let same : ◌≡◌ {A = Met} (place.Mark mark, values_in (scope_of work) env) (l, e) = cc in
        subst (λ (z : Met). FitsPlace f z.0 z.1) same (values_fit f mark work env ahead.1 long)
    on (Ends value) ahead long met later =
        let same : ◌≡◌ {A = Met} (place.Exit, value ∷ []) (l, e) = cc in
        subst (λ (z : Met). FitsPlace f z.0 z.1) same refl

pub meets_fitting_values : MeetsFittingValues
meets_fitting_values f l e l' e' is =
    meets_fitting f is.steps is.work (spread (scope_of is.work) f.vars e) l' e' (ahead_from f l is.work is.from)
    (length-spread (scope_of is.work) f.vars e) is.met

-- ---- traces

-- the events that are seen later, and the mark in front of them
before : (marks mark : ℕ) (values : List ℤ) (seen_later : Option Trace) (trace : Trace) → with_event marks mark values seen_later ≡ Some trace
    → (later : Trace) × (seen_later ≡ Some later) × (trace.events ≡ record { mark = mark; values = values } ∷ later.events)
before marks mark values None trace is = cc
before marks mark values (Some later) trace is =
    let same : record { events = record { mark = mark; values = values } ∷ later.events; result = later.result } ≡ trace = cc in
    (later, refl, sym (ap (λ (t : Trace). t.events) same))

few_values : (f : Program) {n m : ℕ} → n ≤ m → m ≡ f.vars → f.vars ≤ 64 → n ≤ 64
few_values f below long few = omega arith

trace_fitting : (f : Program) → f.vars ≤ 64 → (n marks : ℕ) (work : Work) (env : List ℤ) (trace : Trace) → IsAhead f work → length env ≡ f.vars
    → seen always None with_event no_event n marks work env ≡ Some trace → All (FitsEvent f) trace.events
trace_fitting f few zero marks work env trace ahead long ran = cc
trace_fitting f few (suc n) marks work env trace ahead long ran =
    on (step work env) (ahead_next f work env ahead) (length-step f.vars work env long) ran (λ marks work env. trace_fitting f few n marks work env)
  where
    on : (next : Next) → IsAheadNext f next → HasLength f.vars next
        → seen_next always None with_event no_event (seen always None with_event no_event n) marks next ≡ Some trace
        → ((marks : ℕ) (work : Work) (env : List ℤ) (trace : Trace) → IsAhead f work → length env ≡ f.vars
        → seen always None with_event no_event n marks work env ≡ Some trace → All (FitsEvent f) trace.events)
        → All (FitsEvent f) trace.events
    on (Goes work env) ahead long ran later = later marks work env trace ahead long ran
    on (Passes mark work env) ahead long ran later =
        let behind = before marks mark (values_in (scope_of work) env) (seen always None with_event no_event n (suc marks) work env) trace ran in
        let fits : FitsEvent f (record { mark = mark; values = values_in (scope_of work) env }) =
        record { fits = values_fit f mark work env ahead.1 long; few = few_values f (values_from-few (scope_of work) 0 env) long few } in
        rw behind.2 (All-cons (FitsEvent f) _ behind.0.events fits (later (suc marks) work env behind.0 ahead.0 long behind.1))
    on (Ends value) ahead long ran later =
        let same : record { events = []; result = value } ≡ trace = cc in rw (← same) (λ i default below. absurd (omega arith))

pub trace_fits : TraceFits
trace_fits f is inputs trace ran =
    trace_fitting f is.few ran.steps 0 (start f) (spread (first_variables f.params) f.vars inputs) trace (ahead_at_start f)
    (length-spread (first_variables f.params) f.vars inputs) ran.ran

-- ---- what fits a place, and which places are met

pub as_many_values : FittingValuesAreAsMany
as_many_values f formed place.Entry d e first second = first ∙ sym second
as_many_values f formed (place.Mark mark) d e first second =
    let same = follows_once f formed mark first.0 second.0 first.1 second.1 in
    first.2 ∙ rw same (sym second.2)
as_many_values f formed place.Exit d e first second = first ∙ sym second

place_is : (a b : Met) → Some a ≡ Some b → a.0 ≡ b.0
place_is a b same = let is : a ≡ b = cc in ap (λ (z : Met). z.0) is

never_entry : (n marks : ℕ) (work : Work) (env : List ℤ) (l : Place) (e : List ℤ) → l ≡ place.Entry
    → seen always None at_mark at_exit n marks work env ≡ Some (l, e) → ⊥
never_entry zero marks work env l e same met = cc
never_entry (suc n) marks work env l e same met = on (step work env) (λ m w v. never_entry n m w v l e same) met
  where
    on : (next : Next) → ((marks : ℕ) (work : Work) (env : List ℤ) → seen always None at_mark at_exit n marks work env ≡ Some (l, e) → ⊥)
        → seen_next always None at_mark at_exit (seen always None at_mark at_exit n) marks next ≡ Some (l, e) → ⊥
    on (Goes work env) later met = later marks work env met
    on (Passes mark work env) later met =
        let never : place.Mark mark ≡ place.Entry = place_is (place.Mark mark, values_in (scope_of work) env) (l, e) met ∙ same in
        cc
    on (Ends value) later met =
        let never : place.Exit ≡ place.Entry = place_is (place.Exit, value ∷ []) (l, e) met ∙ same in
        cc

pub entry_is_not_met : EntryIsNotMet
entry_is_not_met f l e l' e' segment same =
    never_entry segment.steps 0 segment.work (spread (scope_of segment.work) f.vars e) l' e' same segment.met

pub exit_is_last : ExitIsLast
exit_is_last f e l' e' segment = segment.from
