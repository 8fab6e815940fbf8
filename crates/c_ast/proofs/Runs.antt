-- What is seen of a run does not depend on the number of steps that are allowed, where they suffice.
use Rattle.std.proofs.Common.{◌≡◌, ℕ, zero, suc, Bool, true, false, cond, nat_lt, List, Option, Some, None, ℤ, refl, sym, ap, ◌∙◌}
use Rattle.c_ast.specs.declared.trace.Event.{Event}
use Rattle.c_ast.specs.declared.trace.Trace.{Trace}
use Rattle.c_ast.specs.declared.trace.Outcome.{Outcome}
use Rattle.c_ast.specs.declared.trace.Outcome.TheVariants as outcome
use Rattle.c_ast.specs.Tree.{Expression}
use Rattle.c_ast.specs.Step.{Work, Next, Goes, Passes, Ends, step, evaluated, scope_of, values_in, seen, seen_next, start, spread, first_variables}
use Rattle.c_ast.specs.Returns.{always, no_mark, as_it_is}
use Rattle.c_ast.specs.Trace.{with_event, no_event, trace_within}
use Rattle.c_ast.specs.FitsRun.{evaluates_fitting}
use Rattle.c_ast.specs.Outcome.{with_first, returned}
use Rattle.c_ast.specs.Judged.{at_most}
use Rattle.c_ast.specs.Laws.{ReturnsOnce, HasOneTrace, TraceReturns, IsJudgedOnce}

-- ---- an observer that hands on what is seen later

-- what is seen is the same, where both see something
pub record Agree (R : Type 0) (a b : Option R) : Type 0 where
  pub by : (v w : R) → a ≡ Some v → b ≡ Some w → v ≡ w

-- what is seen at a mark agrees where what is seen after it does
pub record KeepsAgreement (R : Type 0) (pass : ℕ → ℕ → List ℤ → Option R → Option R) : Type 0 where
  pub by : (marks mark : ℕ) (values : List ℤ) (a b : Option R) → Agree R a b → Agree R (pass marks mark values a) (pass marks mark values b)

-- whatever is tested
module _ (R : Type 0) (holds : Option Expression → List ℤ → Bool) (failed : Option R) (pass : ℕ → ℕ → List ℤ → Option R → Option R) (done : ℤ → R)
    (keeps : KeepsAgreement R pass) where
  pub seen_agree : (i j marks : ℕ) (work : Work) (env : List ℤ)
      → Agree R (seen holds failed pass done i marks work env) (seen holds failed pass done j marks work env)
  seen_agree zero j marks work env = record { by = λ v w p q. cc }
  seen_agree (suc i) zero marks work env = record { by = λ v w p q. cc }
  seen_agree (suc i) (suc j) marks work env = at (holds (evaluated work) env) (λ m. seen_agree i j m)
    where
      on : (next : Next) → ((m : ℕ) (work : Work) (env : List ℤ)
          → Agree R (seen holds failed pass done i m work env) (seen holds failed pass done j m work env))
          → Agree R (seen_next holds failed pass done (seen holds failed pass done i) marks next)
          (seen_next holds failed pass done (seen holds failed pass done j) marks next)
      on (Goes work env) later = later marks work env
      on (Passes mark work env) later = keeps.by marks mark (values_in (scope_of work) env) _ _ (later (suc marks) work env)
      on (Ends value) later = record { by = λ v w p q. cc }

      at : (is : Bool) → ((m : ℕ) (work : Work) (env : List ℤ) → Agree R (seen holds failed pass done i m work env) (seen holds failed pass done j m work env))
          → Agree R (cond is (seen_next holds failed pass done (seen holds failed pass done i) marks (step work env)) failed)
          (cond is (seen_next holds failed pass done (seen holds failed pass done j) marks (step work env)) failed)
      at true later = on (step work env) later
      at false later = record { by = λ v w p q. cc }

no_mark-agrees : KeepsAgreement ℤ no_mark
no_mark-agrees = record { by = λ marks mark values a b same. same }

with_event-agrees : KeepsAgreement Trace with_event
with_event-agrees = record { by = λ marks mark values a b same. both marks mark values a b same }
  where
    both : (marks mark : ℕ) (values : List ℤ) (a b : Option Trace) → Agree Trace a b
        → Agree Trace (with_event marks mark values a) (with_event marks mark values b)
    both marks mark values None b same = record { by = λ v w p q. cc }
    both marks mark values (Some s) None same = record { by = λ v w p q. cc }
    both marks mark values (Some s) (Some t) same = record { by = λ v w p q. let equal : s ≡ t = same.by s t refl refl in cc }

with_first-agrees : (event : Event) (a b : Option Outcome) → Agree Outcome a b → Agree Outcome (with_first event a) (with_first event b)
with_first-agrees event None b same = record { by = λ o p h k. cc }
with_first-agrees event (Some u) None same = record { by = λ o p h k. cc }
with_first-agrees event (Some u)
    (Some v) same = record { by = λ o p h k. let both : Some o ≡ Some p = sym h ∙ ap (λ w. with_first event (Some w)) (same.by u v refl refl) ∙ k in cc }

pub at_most-agrees : (limit : ℕ) → KeepsAgreement Outcome (at_most limit)
at_most-agrees limit = record { by = λ marks mark values a b same. on (nat_lt marks limit) (record { mark = mark; values = values }) a b same }
  where
    on : (under : Bool) (event : Event) (a b : Option Outcome) → Agree Outcome a b
        → Agree Outcome (cond under (with_first event a) (Some outcome.CutOff)) (cond under (with_first event b) (Some outcome.CutOff))
    on true event a b same = with_first-agrees event a b same
    on false event a b same = record { by = λ o p h k. cc }

pub returns_once : ReturnsOnce
returns_once f inputs v w p q = (seen_agree ℤ always None no_mark as_it_is no_mark-agrees p.steps q.steps 0 _ _).by v w p.ends q.ends

pub one_trace : HasOneTrace
one_trace f inputs s t p q = (seen_agree Trace always None with_event no_event with_event-agrees p.steps q.steps 0 _ _).by s t p.ran q.ran

-- what a run is judged to be is determined
pub judged_once : IsJudgedOnce
judged_once f inputs limit o p h k = (seen_agree Outcome evaluates_fitting (Some outcome.Wide)
    (at_most limit) returned (at_most-agrees limit) h.steps k.steps 0 _ _).by o p h.is k.is

-- ---- the result of a trace

result_of : Option Trace → Option ℤ
result_of None = None
result_of (Some trace) = Some trace.result

result_of-with_event : (marks mark : ℕ) (values : List ℤ) (o : Option Trace) → result_of (with_event marks mark values o) ≡ result_of o
unfolding result_of
result_of-with_event marks mark values None = refl
result_of-with_event marks mark values (Some trace) = refl

result_seen : (n i j : ℕ) (work : Work) (env : List ℤ) → seen always None no_mark as_it_is n i work env
    ≡ result_of (seen always None with_event no_event n j work env)
unfolding result_of
result_seen zero i j work env = refl
result_seen (suc n) i j work env = on (step work env) (λ i j. result_seen n i j)
  where
    on : (next : Next) → ((i j : ℕ) (work : Work) (env : List ℤ) → seen always None no_mark as_it_is n i work env
        ≡ result_of (seen always None with_event no_event n j work env))
        → seen_next always None no_mark as_it_is (seen always None no_mark as_it_is n) i next
        ≡ result_of (seen_next always None with_event no_event (seen always None with_event no_event n) j next)
    on (Goes work env) later = later i j work env
    on (Passes mark work env) later = later (suc i) (suc j) work env ∙ sym (result_of-with_event j mark (values_in (scope_of work) env) _)
    on (Ends value) later = refl

-- a result is that of a trace
some_trace : (o : Option Trace) (value : ℤ) → result_of o ≡ Some value → (trace : Trace) × (o ≡ Some trace) × (trace.result ≡ value)
unfolding result_of
some_trace None value is = cc
some_trace (Some trace) value is = (trace, refl, (cc))

trace_result : (o : Option Trace) (trace : Trace) → o ≡ Some trace → result_of o ≡ Some trace.result
unfolding result_of
trace_result o trace is = ap result_of is

pub trace_returns : TraceReturns
trace_returns f inputs value =
    let env = spread (first_variables f.params) f.vars inputs in (
      λ returns.
          let found = some_trace (trace_within returns.steps (start f) env) value (sym (result_seen returns.steps 0 0 (start f) env) ∙ returns.ends) in
          (found.0, record { steps = returns.steps; ran = found.1 }, found.2),
      λ (trace, is, result).
          record {
            steps = is.steps;
            ends = result_seen is.steps 0 0 (start f) env ∙ trace_result (trace_within is.steps (start f) env) trace is.ran
                ∙ ap Some result;
          },
    )
