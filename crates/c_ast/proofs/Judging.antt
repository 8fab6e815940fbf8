-- What comes of a run with a limit of marks, and the function's trace.
use Rattle.std.proofs.lemmas.Bool.Decides.{nat_tests}
use Rattle.std.proofs.Common.{◌≡◌, ℕ, zero, suc, ◌+◌, ◌<◌, ◌≤◌, ◌⊎◌, inl, inr, Bool, true, false, cond, nat_lt, List, ◌∷◌, length, Option, Some, None, ℤ, refl, sym, ap, ◌∙◌, arith}
use Rattle.c_ast.specs.declared.trace.Event.{Event}
use Rattle.c_ast.specs.declared.trace.Trace.{Trace}
use Rattle.c_ast.specs.declared.trace.Outcome.{Outcome}
use Rattle.c_ast.specs.declared.trace.Outcome.TheVariants as outcome
use Rattle.c_ast.specs.Tree.{Program}
use Rattle.c_ast.specs.Step as run
use Rattle.c_ast.specs.Step.{Work, scope_of, values_in, first_variables, start, spread, step, evaluated, seen, seen_next}
use Rattle.c_ast.specs.Returns.{always}
use Rattle.c_ast.specs.FitsRun.{evaluates_fitting}
use Rattle.c_ast.specs.Trace.{IsTrace, with_event, no_event}
use Rattle.c_ast.specs.Outcome.{with_first, at_event, returned, interpreted, or_cut_off}
use Rattle.c_ast.specs.Judged.{at_most, IsJudged}
use Rattle.c_ast.specs.Laws.{JudgedIsTrace, CutOffPassesMore, TraceIsJudged}
use Rattle.c_ast.proofs.Runs.{judged_once}
use Rattle.c_ast.proofs.Outcomes.{behind, outcome_is_trace}

-- ---- a trace that comes of a run

module _ (limit : ℕ) where
  abbrev J : ℕ → ℕ → Work → List ℤ → Option Outcome
  J = seen evaluates_fitting (Some outcome.Wide) (at_most limit) returned

  abbrev IsRun : ℕ → Type 0
  IsRun n = (m : ℕ) (w : Work) (env : List ℤ) (trace : Trace) → m ≤ limit → J n m w env ≡ Some (outcome.Returned trace)
      → (interpreted n m w env ≡ Some (outcome.Returned trace)) × (m + length trace.events ≤ limit)

  next_run : (n m : ℕ) (x : run.Next) (trace : Trace) → IsRun n → m ≤ limit
      → seen_next evaluates_fitting (Some outcome.Wide) (at_most limit) returned (J n) m x ≡ Some (outcome.Returned trace)
      → (seen_next evaluates_fitting (Some outcome.Wide) at_event returned (interpreted n) m x ≡ Some (outcome.Returned trace))
      × (m + length trace.events ≤ limit)
  next_run n m (run.Goes w env) trace more few is = more m w env trace few is
  next_run n m (run.Passes mark w env) trace more few is = on (nat_lt m limit) refl is
    where
      on : (t : Bool) → nat_lt m limit ≡ t
          → cond t (with_first (record { mark = mark; values = values_in (scope_of w) env }) (J n (suc m) w env)) (Some outcome.CutOff)
          ≡ Some (outcome.Returned trace)
          → (with_first (record { mark = mark; values = values_in (scope_of w) env }) (interpreted n (suc m) w env) ≡ Some (outcome.Returned trace))
          × (m + length trace.events ≤ limit)
      on true under is =
          let b = behind (record { mark = mark; values = values_in (scope_of w) env }) (J n (suc m) w env) trace is in
          let o = more (suc m) w env b.later (grind (arith, nat_tests)) b.is in
          let size : length trace.events ≡ suc (length b.later.events) = ap (λ (t : Trace). length t.events) (sym b.whole) in (
            ap (with_first (record { mark = mark; values = values_in (scope_of w) env })) o.0
                ∙ ap (λ t. Some (outcome.Returned t)) b.whole,
            omega (arith, o.1, size),
          )
      on false over is = cc
  next_run n m (run.Ends value) trace more few is =
      let same : no_event value ≡ trace = cc in
      let none : length trace.events ≡ 0 = ap (λ (t : Trace). length t.events) (sym same) in
      (is, omega (arith, none))

  is_run : (n : ℕ) → IsRun n
  is_run zero m w env trace few is = cc
  is_run (suc n) m w env trace few is = on (evaluates_fitting (evaluated w) env) is (is_run n)
    where
      on : (t : Bool) → cond t (seen_next evaluates_fitting (Some outcome.Wide) (at_most limit) returned (J n) m (step w env)) (Some outcome.Wide)
          ≡ Some (outcome.Returned trace) → IsRun n
          → (cond t (seen_next evaluates_fitting (Some outcome.Wide) at_event returned (interpreted n) m (step w env)) (Some outcome.Wide)
          ≡ Some (outcome.Returned trace)) × (m + length trace.events ≤ limit)
      on true is more = next_run n m (step w env) trace more few is
      on false is more = cc

pub judged_is_trace : JudgedIsTrace
judged_is_trace f inputs limit trace h =
    let o = is_run limit h.steps 0 (start f) (spread (first_variables f.params) f.vars inputs) trace (omega arith) h.is in
    (outcome_is_trace f inputs h.steps trace (ap or_cut_off o.0), omega (arith, o.1))

-- ---- what comes of a run that has a trace

-- what follows the first mark of a trace
record AfterFirst (event : Event) (o : Option Trace) (trace : Trace) : Type 0 where
  later : Trace
  is : o ≡ Some later
  whole : record { events = event ∷ later.events; result = later.result } ≡ trace

after_first : (j mark : ℕ) (values : List ℤ) (o : Option Trace) (trace : Trace) → with_event j mark values o ≡ Some trace
    → AfterFirst (record { mark = mark; values = values }) o trace
after_first j mark values None trace is = cc
after_first j mark values (Some later) trace is = record { later = later; is = refl; whole = (cc) }

-- What comes of a run with this trace, where m marks were passed before: the trace, where the limit allows its marks, the
-- cut, where it does not, or a wide value.
data ComesOf (limit m : ℕ) (trace : Trace) (o : Option Outcome) : Type 0 where
  comes_back : o ≡ Some (outcome.Returned trace) → m + length trace.events ≤ limit → ComesOf limit m trace o
  comes_wide : o ≡ Some outcome.Wide → ComesOf limit m trace o
  comes_cut : o ≡ Some outcome.CutOff → limit < m + length trace.events → ComesOf limit m trace o

module _ (limit : ℕ) where
  abbrev Seen : ℕ → ℕ → Work → List ℤ → Option Outcome
  Seen = seen evaluates_fitting (Some outcome.Wide) (at_most limit) returned

  abbrev Traced : ℕ → ℕ → Work → List ℤ → Option Trace
  Traced = seen always None with_event no_event

  abbrev Comes : ℕ → Type 0
  Comes n = (m j : ℕ) (w : Work) (env : List ℤ) (trace : Trace) → m ≤ limit → Traced n j w env ≡ Some trace → ComesOf limit m trace (Seen n m w env)

  comes_first : (m : ℕ) (event : Event) (later trace : Trace) (o : Option Outcome) → record { events = event ∷ later.events; result = later.result } ≡ trace
      → ComesOf limit (suc m) later o
      → ComesOf limit m trace (with_first event o)
  comes_first m event later trace o whole comes = on comes
    where
      size : length trace.events ≡ suc (length later.events)
      size = ap (λ (t : Trace). length t.events) (sym whole)

      on : ComesOf limit (suc m) later o → ComesOf limit m trace (with_first event o)
      on (comes_back is few) = comes_back (ap (with_first event) is ∙ ap (λ t. Some (outcome.Returned t)) whole) (omega (arith, few, size))
      on (comes_wide is) = comes_wide (ap (with_first event) is)
      on (comes_cut is over) = comes_cut (ap (with_first event) is) (omega (arith, over, size))

  comes_next : (n m j : ℕ) (x : run.Next) (trace : Trace) → Comes n → m ≤ limit → seen_next always None with_event no_event (Traced n) j x ≡ Some trace
      → ComesOf limit m trace (seen_next evaluates_fitting (Some outcome.Wide) (at_most limit) returned (Seen n) m x)
  comes_next n m j (run.Goes w env) trace more few is = more m j w env trace few is
  comes_next n m j (run.Passes mark w env) trace more few is = on (nat_lt m limit) refl
    where
      event : Event
      event = record { mark = mark; values = values_in (scope_of w) env }

      first : AfterFirst event (Traced n (suc j) w env) trace
      first = after_first j mark (values_in (scope_of w) env) (Traced n (suc j) w env) trace is

      size : length trace.events ≡ suc (length first.later.events)
      size = ap (λ (t : Trace). length t.events) (sym first.whole)

      on : (under : Bool) → nat_lt m limit ≡ under → ComesOf limit m trace (cond under (with_first event (Seen n (suc m) w env)) (Some outcome.CutOff))
      on true under =
          comes_first m event first.later trace (Seen n (suc m) w env) first.whole (more (suc m) (suc j) w env first.later (grind (arith, nat_tests)) first.is)
      on false over =
          let at_limit : limit ≤ m = grind (arith, nat_tests) in
          comes_cut refl (omega (arith, at_limit, size))
  comes_next n m j (run.Ends value) trace more few is =
      let same : no_event value ≡ trace = cc in
      let none : length trace.events ≡ 0 = ap (λ (t : Trace). length t.events) (sym same) in
      comes_back (ap (λ t. Some (outcome.Returned t)) same) (omega (arith, few, none))

  comes : (n : ℕ) → Comes n
  comes zero m j w env trace few is = cc
  comes (suc n) m j w env trace few is = on (evaluates_fitting (evaluated w) env) (comes n)
    where
      on : (narrow : Bool) → Comes n
          → ComesOf limit m trace (cond narrow (seen_next evaluates_fitting (Some outcome.Wide) (at_most limit) returned (Seen n) m (step w env))
          (Some outcome.Wide))
      on true more = comes_next n m j (step w env) trace more few is
      on false more = comes_wide refl

-- what comes of the run in as many steps as the trace has
comes_of : (f : Program) (inputs : List ℤ) (limit : ℕ) (trace : Trace) (h : IsTrace f inputs trace)
    → ComesOf limit 0 trace (seen evaluates_fitting (Some outcome.Wide) (at_most limit) returned h.steps 0 (start f)
    (spread (first_variables f.params) f.vars inputs))
comes_of f inputs limit trace h = comes limit h.steps 0 0 (start f) (spread (first_variables f.params) f.vars inputs) trace (omega arith) h.ran

pub trace_is_judged : TraceIsJudged
trace_is_judged f inputs limit trace h few = on (comes_of f inputs limit trace h)
  where
    on : ComesOf limit 0 trace (seen evaluates_fitting (Some outcome.Wide) (at_most limit) returned h.steps 0 (start f)
        (spread (first_variables f.params) f.vars inputs))
        → IsJudged f inputs limit (outcome.Returned trace) ⊎ IsJudged f inputs limit outcome.Wide
    on (comes_back is within) = inl (record { steps = h.steps; is = is })
    on (comes_wide is) = inr (record { steps = h.steps; is = is })
    on (comes_cut is over) = absurd (omega (arith, few, over))

pub cut_off_passes_more : CutOffPassesMore
cut_off_passes_more f inputs limit trace cut h = on (comes_of f inputs limit trace h)
  where
    on : ComesOf limit 0 trace (seen evaluates_fitting (Some outcome.Wide) (at_most limit) returned h.steps 0 (start f)
        (spread (first_variables f.params) f.vars inputs)) → limit < length trace.events
    on (comes_back is within) =
        let same : outcome.CutOff ≡ outcome.Returned trace = judged_once f inputs limit _ _ cut (record { steps = h.steps; is = is }) in
        cc
    on (comes_wide is) =
        let same : outcome.CutOff ≡ outcome.Wide = judged_once f inputs limit _ _ cut (record { steps = h.steps; is = is }) in
        cc
    on (comes_cut is over) = omega (arith, over)
