-- The values of a run that is judged to return are below 2^100 in size.
use Rattle.std.proofs.Common.{◌≡◌, ℕ, zero, suc, Bool, true, false, cond, nat_lt, List, [], ◌∷◌, Option, Some, None, ℤ, refl, subst}
use Rattle.std.proofs.lemmas.List.Elements.{All-nil, All-cons, All-head, All-tail}
use Rattle.c_ast.specs.declared.trace.Event.{Event}
use Rattle.c_ast.specs.declared.trace.Trace.{Trace}
use Rattle.c_ast.specs.declared.trace.Outcome.{Outcome}
use Rattle.c_ast.specs.declared.trace.Outcome.TheVariants as outcome
use Rattle.c_ast.specs.Tree.{Nil, Set, If, Loop, Break, Continue, Return, Mark, Block}
use Rattle.c_ast.specs.Value.{eval}
use Rattle.c_ast.specs.FitsRun.{FitsRun, evaluates_fitting}
use Rattle.c_ast.specs.Step.{Scope, Work, Run, Test, Cond, Tail, Next, Goes, Passes, Ends, is_in, step, tested, evaluated, scope_of, with_value, values_from, values_in, first_variables, seen, seen_next}
use Rattle.c_ast.specs.Trace.{no_event}
use Rattle.c_ast.specs.Outcome.{with_first, returned}
use Rattle.c_ast.specs.Judged.{at_most}
use Rattle.graph_run.specs.Answers.{AllFitRun, TraceFitsRun}
use Rattle.graph_run.specs.Laws.{JudgedFits}
use Rattle.graph_run.proofs.Fitting.{value_fits, set_fits, spread_fits}

abbrev NextFits : Next → Type 0
NextFits (Goes work env) = AllFitRun env
NextFits (Passes mark work env) = AllFitRun env
NextFits (Ends value) = FitsRun value

step_fits : (work : Work) (env : List ℤ) → AllFitRun env → evaluates_fitting (evaluated work) env ≡ true → NextFits (step work env)
step_fits [] env all holds = refl
step_fits (Run scope Nil ∷ work) env all holds = all
step_fits (Run scope (Set x e others) ∷ work) env all holds = set_fits env x (eval e env) all (value_fits e env holds)
step_fits (Run scope (If e a b others) ∷ work) env all holds = all
step_fits (Run scope (Loop mark e body tail test_first others) ∷ work) env all holds = all
step_fits (Run scope (Break others) ∷ work) env all holds = all
step_fits (Run scope (Continue others) ∷ work) env all holds = all
step_fits (Run scope (Return e others) ∷ work) env all holds = value_fits e env holds
step_fits (Run scope (Mark mark others) ∷ work) env all holds = all
step_fits (Run scope (Block a others) ∷ work) env all holds = all
step_fits (Test scope loop ∷ work) env all holds = on loop.mark
  where
    on : (mark : Option ℕ) → NextFits (tested mark (Cond scope loop ∷ work) env)
    on None = all
    on (Some mark) = all
step_fits (Cond scope loop ∷ work) env all holds = all
step_fits (Tail scope loop ∷ work) env all holds = all

scope_fits : (scope : Scope) (i : ℕ) (env : List ℤ) → AllFitRun env → AllFitRun (values_from scope i env)
scope_fits scope i [] all = all
scope_fits scope i (value ∷ env) all =
    on (is_in scope i) (scope_fits scope (suc i) env (All-tail FitsRun value env all))
  where
    on : (within : Bool) → AllFitRun (values_from scope (suc i) env) → AllFitRun (with_value within value (values_from scope (suc i) env))
    on true others = All-cons FitsRun value (values_from scope (suc i) env) (All-head FitsRun value env all) others
    on false others = others

-- the trace behind a first event
record Behind (event : Event) (later : Option Outcome) (trace : Trace) : Type 0 where
  more : Trace
  is : later ≡ Some (outcome.Returned more)
  whole : record { events = event ∷ more.events; result = more.result } ≡ trace

behind : (event : Event) (later : Option Outcome) (trace : Trace) → with_first event later ≡ Some (outcome.Returned trace) → Behind event later trace
behind event None trace is = cc
behind event (Some (outcome.Returned more)) trace is = record { more = more; is = refl; whole = (cc) }
behind event (Some outcome.Wide) trace is = cc
behind event (Some outcome.CutOff) trace is = cc

first_fits : (event : Event) (later : Option Outcome) (trace : Trace) → AllFitRun event.values
    → ((more : Trace) → later ≡ Some (outcome.Returned more) → TraceFitsRun more)
    → with_first event later ≡ Some (outcome.Returned trace) → TraceFitsRun trace
first_fits event later trace values others is =
    let b = behind event later trace is in
    let fits = others b.more b.is in
    let events = All-cons (λ e. AllFitRun e.values) event b.more.events values fits.events in
    subst TraceFitsRun b.whole (record { events = events; result = fits.result })

-- ---- what a run is judged to be

module _ (limit : ℕ) where
  abbrev judged : ℕ → ℕ → Work → List ℤ → Option Outcome
  judged = seen evaluates_fitting (Some outcome.Wide) (at_most limit) returned

  abbrev judged_after : ℕ → ℕ → Next → Option Outcome
  judged_after n marks next = seen_next evaluates_fitting (Some outcome.Wide) (at_most limit) returned (judged n) marks next

  -- Whatever a run comes to in n steps, where that is a trace, fits.
  abbrev Later : ℕ → Type 0
  Later n = (marks : ℕ) (work : Work) (env : List ℤ) (trace : Trace)
      → AllFitRun env → judged n marks work env ≡ Some (outcome.Returned trace) → TraceFitsRun trace

  seen_fits : (n : ℕ) → Later n
  seen_fits zero marks work env trace all is = cc
  seen_fits (suc n) marks work env trace all is = at (evaluates_fitting (evaluated work) env) refl is (seen_fits n)
    where
      on : (next : Next) → NextFits next → Later n → judged_after n marks next ≡ Some (outcome.Returned trace) → TraceFitsRun trace
      on (Goes work env) all later is = later marks work env trace all is
      on (Passes mark work env) all later is = under (nat_lt marks limit) is
        where
          event : Event
          event = record { mark = mark; values = values_in (scope_of work) env }

          under : (few : Bool) → cond few (with_first event (judged n (suc marks) work env)) (Some outcome.CutOff) ≡ Some (outcome.Returned trace)
              → TraceFitsRun trace
          under true is =
              first_fits event (judged n (suc marks) work env) trace (scope_fits (scope_of work) 0 env all) (λ more. later (suc marks) work env more all) is
          under false is = cc
      on (Ends value) all later is =
          let same : no_event value ≡ trace = cc in
          subst TraceFitsRun same (record { events = All-nil (λ (e : Event). AllFitRun e.values); result = all })

      at : (holds : Bool) → evaluates_fitting (evaluated work) env ≡ holds
          → cond holds (judged_after n marks (step work env)) (Some outcome.Wide) ≡ Some (outcome.Returned trace) → Later n → TraceFitsRun trace
      at true holds is later = on (step work env) (step_fits work env all holds) later is
      at false holds is later = cc

pub judged_fits : JudgedFits
judged_fits f inputs limit trace all h = seen_fits limit h.steps 0 _ _ trace (spread_fits (first_variables f.params) 0 f.vars inputs all) h.is
