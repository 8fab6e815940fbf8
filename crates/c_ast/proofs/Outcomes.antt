-- What the interpreter returns is the function's trace.
use Rattle.std.proofs.Common.{◌≡◌, ℕ, zero, suc, Bool, true, false, cond, List, ◌∷◌, Option, Some, None, ℤ, refl, ap, ◌∙◌}
use Rattle.c_ast.specs.declared.trace.Event.{Event}
use Rattle.c_ast.specs.declared.trace.Trace.{Trace}
use Rattle.c_ast.specs.declared.trace.Outcome.{Outcome}
use Rattle.c_ast.specs.declared.trace.Outcome.TheVariants as outcome
use Rattle.c_ast.specs.Step as run
use Rattle.c_ast.specs.Step.{Work, scope_of, values_in, first_variables, step, evaluated, start, spread, seen, seen_next}
use Rattle.c_ast.specs.Returns.{always}
use Rattle.c_ast.specs.Trace.{with_event, no_event}
use Rattle.c_ast.specs.FitsRun.{evaluates_fitting}
use Rattle.c_ast.specs.Outcome.{with_first, at_event, returned, interpreted, or_cut_off}
use Rattle.c_ast.specs.Laws.{OutcomeIsTrace}

-- the trace behind a first event
pub record Behind (event : Event) (o : Option Outcome) (trace : Trace) : Type 0 where
  pub later : Trace
  pub is : o ≡ Some (outcome.Returned later)
  pub whole : record { events = event ∷ later.events; result = later.result } ≡ trace

pub behind : (event : Event) (o : Option Outcome) (trace : Trace) → with_first event o ≡ Some (outcome.Returned trace) → Behind event o trace
behind event None trace is = cc
behind event (Some (outcome.Returned later)) trace is = record { later = later; is = refl; whole = (cc) }
behind event (Some outcome.Wide) trace is = cc
behind event (Some outcome.CutOff) trace is = cc

trace_seen : (n i j : ℕ) (w : Work) (env : List ℤ) (trace : Trace) → interpreted n i w env ≡ Some (outcome.Returned trace)
    → seen always None with_event no_event n j w env ≡ Some trace
trace_seen zero i j w env trace is = cc
trace_seen (suc n) i j w env trace is = at (evaluates_fitting (evaluated w) env) is (λ i j. trace_seen n i j)
  where
    on : (x : run.Next) → seen_next evaluates_fitting (Some outcome.Wide) at_event returned (interpreted n) i x ≡ Some (outcome.Returned trace)
        → ((i j : ℕ) (w : Work) (env : List ℤ) (trace : Trace) → interpreted n i w env ≡ Some (outcome.Returned trace)
        → seen always None with_event no_event n j w env ≡ Some trace)
        → seen_next always None with_event no_event (seen always None with_event no_event n) j x ≡ Some trace
    on (run.Goes w env) is later = later i j w env trace is
    on (run.Passes k w env) is later =
        let b = behind (record { mark = k; values = values_in (scope_of w) env }) (interpreted n (suc i) w env) trace is in
        ap (with_event j k (values_in (scope_of w) env)) (later (suc i) (suc j) w env b.later b.is) ∙ ap Some b.whole
    on (run.Ends v) is later = let same : no_event v ≡ trace = cc in ap Some same

    at : (t : Bool) → cond t (seen_next evaluates_fitting (Some outcome.Wide) at_event returned (interpreted n) i (step w env)) (Some outcome.Wide)
        ≡ Some (outcome.Returned trace)
        → ((i j : ℕ) (w : Work) (env : List ℤ) (trace : Trace) → interpreted n i w env ≡ Some (outcome.Returned trace)
        → seen always None with_event no_event n j w env ≡ Some trace)
        → seen_next always None with_event no_event (seen always None with_event no_event n) j (step w env) ≡ Some trace
    at true is later = on (step w env) is later
    at false is later = cc

not_cut_off : (o : Option Outcome) (trace : Trace) → or_cut_off o ≡ outcome.Returned trace → o ≡ Some (outcome.Returned trace)
not_cut_off None trace is = cc
not_cut_off (Some o) trace is = ap Some is

pub outcome_is_trace : OutcomeIsTrace
outcome_is_trace f inputs steps trace is = record {
  steps = steps;
  ran = trace_seen steps 0 0 (start f)
      (spread (first_variables f.params) f.vars inputs) trace (not_cut_off (interpreted steps 0 (start f)
      (spread (first_variables f.params) f.vars inputs)) trace is);
}
