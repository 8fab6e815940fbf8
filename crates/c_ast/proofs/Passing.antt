-- A trace is the list of segments from the entry through its marks to the exit, and each such list is a trace.
use Rattle.std.proofs.Common.{◌≡◌, ℕ, zero, suc, ◌+◌, Bool, true, false, List, [], ◌∷◌, length, get_or, Option, Some, None, ℤ, pos, refl, sym, ap, ◌∙◌, subst, arith}
use Rattle.c_ast.specs.declared.place.Place.{Place}
use Rattle.c_ast.specs.declared.place.Place.TheVariants as place
use Rattle.c_ast.specs.declared.trace.Event.{Event}
use Rattle.c_ast.specs.declared.trace.Trace.{Trace}
use Rattle.c_ast.specs.Tree.{Program}
use Rattle.c_ast.specs.Step.{Scope, is_in, first_variables, Work, scope_of, Next, Goes, Passes, Ends, step, with_value, values_from, values_in, spread, start, seen_next, seen}
use Rattle.c_ast.specs.Returns.{always}
use Rattle.c_ast.specs.Trace.{with_event, no_event, IsTrace}
use Rattle.c_ast.specs.Segment.{Follows, at_mark, at_exit, met_within, IsSegment}
use Rattle.c_ast.specs.Formed.{IsProgram}
use Rattle.c_ast.specs.Passing.{LeadsThrough, TraceIsSegments}
use Rattle.c_ast.proofs.Lengths.{length-spread_from}
use Rattle.c_ast.specs.Agreement.{Agree, IsReady, AreAlike}
use Rattle.c_ast.proofs.Agreeing.{within_itself, agree_itself, agree_both, agree_spread}
use Rattle.c_ast.proofs.Nesting.{formed_reads}
use Rattle.c_ast.proofs.MarksAhead.{ahead_at_start}
use Rattle.c_ast.proofs.Stepping.{step_alike}
use Rattle.c_ast.proofs.Following.{follows_once}

abbrev Met : Type 0
Met = Place × List ℤ

-- the trace of at most n steps, where some marks were passed before
abbrev trace_after : ℕ → ℕ → Work → List ℤ → Option Trace
trace_after = seen always None with_event no_event

abbrev trace_of : List Event → ℤ → Trace
trace_of events result = record { events = events; result = result }

-- ---- environments that agree have the same values in scope

values_agree : (scope : Scope) (i : ℕ) (a b : List ℤ) → length a ≡ length b
    → ((x : ℕ) → is_in scope (i + x) ≡ true → get_or a x (pos 0) ≡ get_or b x (pos 0)) → values_from scope i a ≡ values_from scope i b
values_agree scope i [] [] long same = refl
values_agree scope i [] (w ∷ b) long same = cc
values_agree scope i (v ∷ a) [] long same = cc
values_agree scope i (v ∷ a) (w ∷ b) long same =
    at (is_in scope i) refl (values_agree scope (suc i) a b (omega arith)
    (λ x inside. same (suc x) (let e : i + suc x ≡ suc i + x = omega arith in rw e inside)))
  where
    at : (t : Bool) → is_in scope i ≡ t → values_from scope (suc i) a ≡ values_from scope (suc i) b
        → with_value t v (values_from scope (suc i) a) ≡ with_value t w (values_from scope (suc i) b)
    at true is others =
        let first : v ≡ w = same 0 (let e : i + 0 ≡ i = omega arith in rw e is) in
        rw (first, others)
    at false is others = others

agree_values : (n : ℕ) (scope : Scope) (a b : List ℤ) → Agree n scope a b → values_in scope a ≡ values_in scope b
agree_values n scope a b same = values_agree scope 0 a b (same.left ∙ sym same.right)
    (λ x inside. same.agree x (let e : 0 + x ≡ x = omega arith in rw e at inside))

agree_back : (n : ℕ) (scope : Scope) (a b : List ℤ) → Agree n scope a b → Agree n scope b a
agree_back n scope a b same = record { left = same.right; right = same.left; agree = λ x inside. sym (same.agree x inside) }

module _ (f : Program) where
  -- The place with the values is the first that the events tell, and segments lead through the others.
  abbrev Leads : Place → List ℤ → List Event → ℤ → Type 0
  Leads l e [] result = (l ≡ place.Exit) × (e ≡ result ∷ [])
  Leads l e (event ∷ events) result = (l ≡ place.Mark event.mark) × (e ≡ event.values) × LeadsThrough f l e events result

  -- some steps from the work meet a place from which all is led through
  record GoesOut (work : Work) (b : List ℤ) (events : List Event) (result : ℤ) : Type 0 where
    l : Place
    e : List ℤ
    steps : ℕ
    met : met_within steps work b ≡ Some (l, e)
    leads : Leads l e events result

  through : (l : Place) (e : List ℤ) (l' : Place) (e' : List ℤ) (events : List Event) (result : ℤ) → IsSegment f l e l' e'
      → Leads l' e' events result → LeadsThrough f l e events result
  through l e l' e' [] result segment leads =
      let at_place = subst (λ (z : Place). IsSegment f l e z e') leads.0 segment in
      subst (λ (z : List ℤ). IsSegment f l e place.Exit z) leads.1 at_place
  through l e l' e' (event ∷ events) result segment leads =
      let at_place = subst (λ (z : Place). IsSegment f l e z e') leads.0 segment in
      let others = subst (λ (z : Place). LeadsThrough f z e' events result) leads.0 leads.2 in (
        subst (λ (z : List ℤ). IsSegment f l e (place.Mark event.mark) z) leads.1 at_place,
        subst (λ (z : List ℤ). LeadsThrough f (place.Mark event.mark) z events result) leads.1 others,
      )

  -- ---- a trace splits

  after_step : (n marks : ℕ) (trace : Trace) (x y : Next)
      → seen_next always None with_event no_event (trace_after n) marks x ≡ Some trace → AreAlike f x y
      → ((marks : ℕ) (work : Work) (scope : Scope) (a b : List ℤ) (trace : Trace) → IsReady f scope work a b → trace_after n marks work a ≡ Some trace
      → GoesOut work b trace.events trace.result)
      → (work : Work) (b : List ℤ) → step work b ≡ y → GoesOut work b trace.events trace.result
  after_step n marks trace (Goes w1 a1) (Goes w2 b1) ran alike goes work b e =
      let out = goes marks w1 alike.1 a1 b1 trace alike.2 ran in
      record {
        l = out.l;
        e = out.e;
        steps = suc out.steps;
        met = ap (seen_next always None at_mark at_exit (seen always None at_mark at_exit out.steps) 0) e
            ∙ ap (λ (z : Work). met_within out.steps z b1) (sym alike.0) ∙ out.met;
        leads = out.leads;
      }
  after_step n marks trace (Passes j w1 a1) (Passes k w2 b1) ran alike goes work b e = past (trace_after n (suc marks) w1 a1) refl ran
    where
      past : (later : Option Trace) → trace_after n (suc marks) w1 a1 ≡ later → with_event marks j (values_in (scope_of w1) a1) later ≡ Some trace
          → GoesOut work b trace.events trace.result
      past None after ran = cc
      past (Some others) after ran =
          let scope = scope_of w1 in
          let values = values_in scope a1 in
          let next = spread scope f.vars values in
          let ready : IsReady f scope w1 a1 next = record {
            nested = alike.2.nested;
            agree = agree_spread f.vars scope a1 alike.2.agree.left;
            ahead = alike.2.ahead;
          } in
          let out = goes (suc marks) w1 scope a1 next others ready after in
          let segment : IsSegment f (place.Mark j) values out.l out.e = record { work = w1; from = alike.3; steps = out.steps; met = out.met } in
          let is : trace_of (record { mark = j; values = values } ∷ others.events) others.result ≡ trace = cc in
          let same : values_in (scope_of w1) b1 ≡ values = sym (agree_values f.vars scope a1 b1 alike.2.agree) in
          subst (λ (t : Trace). GoesOut work b t.events t.result) is (record {
            l = place.Mark j;
            e = values;
            steps = 1;
            met = ap (seen_next always None at_mark at_exit (seen always None at_mark at_exit 0) 0) e
                ∙ ap (λ (i : ℕ). Some (place.Mark i, values_in (scope_of w2) b1)) (sym alike.0)
                ∙ ap (λ (z : Work). Some (place.Mark j, values_in (scope_of z) b1)) (sym alike.1)
                ∙ ap (λ (z : List ℤ). Some (place.Mark j, z)) same;
            leads = (refl, refl, through (place.Mark j) values out.l out.e others.events others.result segment out.leads);
          })
  after_step n marks trace (Ends u) (Ends v) ran alike goes work b e =
      let is : trace_of [] u ≡ trace = cc in
      subst (λ (t : Trace). GoesOut work b t.events t.result) is (record {
        l = place.Exit;
        e = v ∷ [];
        steps = 1;
        met = ap (seen_next always None at_mark at_exit (seen always None at_mark at_exit 0) 0) e;
        leads = (refl, ap (λ (z : ℤ). z ∷ []) (sym alike));
      })
  after_step n marks trace (Goes w1 a1) (Passes k w2 b1) ran alike goes work b e = absurd alike
  after_step n marks trace (Goes w1 a1) (Ends v) ran alike goes work b e = absurd alike
  after_step n marks trace (Passes j w1 a1) (Goes w2 b1) ran alike goes work b e = absurd alike
  after_step n marks trace (Passes j w1 a1) (Ends v) ran alike goes work b e = absurd alike
  after_step n marks trace (Ends u) (Goes w2 b1) ran alike goes work b e = absurd alike
  after_step n marks trace (Ends u) (Passes k w2 b1) ran alike goes work b e = absurd alike

  splits : (n marks : ℕ) (work : Work) (scope : Scope) (a b : List ℤ) (trace : Trace) → IsReady f scope work a b
      → trace_after n marks work a ≡ Some trace → GoesOut work b trace.events trace.result
  splits zero marks work scope a b trace ready ran = cc
  splits (suc n) marks work scope a b trace ready ran =
      after_step n marks trace (step work a) (step work b) ran (step_alike f work scope a b ready)
      (λ marks' work' scope' a' b' trace' ready' ran'. splits n marks' work' scope' a' b' trace' ready' ran') work b refl

  at_start : IsProgram f → (inputs : List ℤ) → let a = spread (first_variables f.params) f.vars inputs in IsReady f (first_variables f.params) (start f) a a
  at_start formed inputs =
      let scope = first_variables f.params in
      record {
        nested = (within_itself scope, formed_reads f.body f.vars scope false formed.formed, tt);
        agree = agree_itself f.vars scope (spread scope f.vars inputs) (length-spread_from (pos 0) scope 0 f.vars inputs);
        ahead = ahead_at_start f;
      }

  trace_leads_through : IsProgram f → (inputs : List ℤ) (trace : Trace) → IsTrace f inputs trace
      → LeadsThrough f place.Entry inputs trace.events trace.result
  trace_leads_through formed inputs trace is =
      let a = spread (first_variables f.params) f.vars inputs in
      let out = splits is.steps 0 (start f) (first_variables f.params) a a trace (at_start formed inputs) is.ran in
      let segment : IsSegment f place.Entry inputs out.l out.e = record { work = start f; from = refl; steps = out.steps; met = out.met } in
      through place.Entry inputs out.l out.e trace.events trace.result segment out.leads

  -- ---- segments join

  -- Some steps end the work with the trace, however many marks were passed before.
  record EndsWith (work : Work) (b : List ℤ) (events : List Event) (result : ℤ) : Type 0 where
    steps : ℕ
    ran : (marks : ℕ) → trace_after steps marks work b ≡ Some (trace_of events result)

  -- the first segment of those that lead through the events
  record First (l : Place) (e : List ℤ) (events : List Event) (result : ℤ) : Type 0 where
    met : Met
    segment : IsSegment f l e met.0 met.1
    leads : Leads met.0 met.1 events result

  first_of : (l : Place) (e : List ℤ) (events : List Event) (result : ℤ) → LeadsThrough f l e events result → First l e events result
  first_of l e [] result leads = record { met = (place.Exit, result ∷ []); segment = leads; leads = (refl, refl) }
  first_of l e (event ∷ events) result leads =
      record { met = (place.Mark event.mark, event.values); segment = leads.0; leads = (refl, refl, leads.1) }

  module _ (formed : IsProgram f) (result : ℤ) where
    abbrev Joins : List Event → ℕ → Type 0
    Joins events steps = (work : Work) (scope : Scope) (a b : List ℤ) (met : Met) → IsReady f scope work a b → met_within steps work a ≡ Some met
        → Leads met.0 met.1 events result → EndsWith work b events result

    -- the same with one event less, for any number of steps
    abbrev JoinsFewer : List Event → Type 0
    JoinsFewer [] = Unit {0}
    JoinsFewer (event ∷ events) = (steps : ℕ) → Joins events steps

    -- from a mark that was just passed
    past_mark : (events : List Event) (j : ℕ) (w : Work) (a b : List ℤ) → ((steps : ℕ) → Joins events steps) → IsReady f (scope_of w) w a b → Follows f j w
        → LeadsThrough f (place.Mark j) (values_in (scope_of w) a) events result → EndsWith w b events result
    past_mark events j w a b joins ready follows leads =
        let values = values_in (scope_of w) a in
        let next = first_of (place.Mark j) values events result leads in
        let same : next.segment.work ≡ w = follows_once f formed j next.segment.work w next.segment.from follows in
        let met = subst (λ (z : Work). met_within next.segment.steps z (spread (scope_of z) f.vars values) ≡ Some next.met) same next.segment.met in
        let again = spread (scope_of w) f.vars values in
        let there : IsReady f (scope_of w) w again b = record {
          nested = ready.nested;
          agree = agree_both f.vars (scope_of w) again a b
              (agree_back f.vars (scope_of w) a again (agree_spread f.vars (scope_of w) a ready.agree.left)) ready.agree;
          ahead = ready.ahead;
        } in
        joins next.segment.steps w (scope_of w) again b next.met there met next.leads

    at_step : (events : List Event) (steps : ℕ) (met : Met) (x y : Next) → JoinsFewer events → Joins events steps
        → seen_next always None at_mark at_exit (seen always None at_mark at_exit steps) 0 x ≡ Some met → AreAlike f x y
        → Leads met.0 met.1 events result → (work : Work) (b : List ℤ) → step work b ≡ y → EndsWith work b events result
    at_step events steps met (Goes w1 a1) (Goes w2 b1) fewer joins ran alike leads work b e =
        let out = joins w1 alike.1 a1 b1 met alike.2 ran leads in
        record {
          steps = suc out.steps;
          ran = λ marks. ap (seen_next always None with_event no_event (trace_after out.steps) marks) e
              ∙ ap (λ (z : Work). trace_after out.steps marks z b1) (sym alike.0) ∙ out.ran marks;
        }
    at_step [] steps met (Passes j w1 a1) (Passes k w2 b1) fewer joins ran alike leads work b e =
        let is : (place.Mark j, values_in (scope_of w1) a1) ≡ met = cc in
        let here : Leads (place.Mark j) (values_in (scope_of w1) a1) [] result = subst (λ (z : Met). Leads z.0 z.1 [] result) (sym is) leads in
        let never : place.Mark j ≡ place.Exit = here.0 in
        cc
    at_step (event ∷ events) steps met (Passes j w1 a1) (Passes k w2 b1) fewer joins ran alike leads work b e =
        let is : (place.Mark j, values_in (scope_of w1) a1) ≡ met = cc in
        let here = subst (λ (z : Met). Leads z.0 z.1 (event ∷ events) result) (sym is) leads in
        let out = past_mark events j w1 a1 b1 fewer alike.2 alike.3 here.2 in
        let mark_is : j ≡ event.mark = (let same = here.0 in cc) in
        let values_are : values_in (scope_of w1) b1 ≡ event.values = sym (agree_values f.vars (scope_of w1) a1 b1 alike.2.agree) ∙ here.1 in
        record {
          steps = suc out.steps;
          ran = λ marks. ap (seen_next always None with_event no_event (trace_after out.steps) marks) e
              ∙ ap (λ (z : Work). with_event marks k (values_in (scope_of z) b1) (trace_after out.steps (suc marks) z b1)) (sym alike.1)
              ∙ ap (λ (z : Option Trace). with_event marks k (values_in (scope_of w1) b1) z) (out.ran (suc marks))
              ∙ ap (λ (z : List ℤ). Some (trace_of (record { mark = k; values = z } ∷ events) result)) values_are
              ∙ ap (λ (z : ℕ). Some (trace_of (record { mark = z; values = event.values } ∷ events) result)) (sym alike.0 ∙ mark_is);
        }
    at_step [] steps met (Ends u) (Ends v) fewer joins ran alike leads work b e =
        let is : (place.Exit, u ∷ []) ≡ met = cc in
        let here = subst (λ (z : Met). Leads z.0 z.1 [] result) (sym is) leads in
        let value : u ≡ result = (let same = here.1 in cc) in
        record {
          steps = 1;
          ran = λ marks. ap (seen_next always None with_event no_event (trace_after 0) marks) e
              ∙ ap (λ (z : ℤ). Some (trace_of [] z)) (sym alike ∙ value);
        }
    at_step (event ∷ events) steps met (Ends u) (Ends v) fewer joins ran alike leads work b e =
        let is : (place.Exit, u ∷ []) ≡ met = cc in
        let here = subst (λ (z : Met). Leads z.0 z.1 (event ∷ events) result) (sym is) leads in
        let never : place.Exit ≡ place.Mark event.mark = here.0 in
        cc
    at_step events steps met (Goes w1 a1) (Passes k w2 b1) fewer joins ran alike leads work b e = absurd alike
    at_step events steps met (Goes w1 a1) (Ends v) fewer joins ran alike leads work b e = absurd alike
    at_step events steps met (Passes j w1 a1) (Goes w2 b1) fewer joins ran alike leads work b e = absurd alike
    at_step events steps met (Passes j w1 a1) (Ends v) fewer joins ran alike leads work b e = absurd alike
    at_step events steps met (Ends u) (Goes w2 b1) fewer joins ran alike leads work b e = absurd alike
    at_step events steps met (Ends u) (Passes k w2 b1) fewer joins ran alike leads work b e = absurd alike

    joins_by : (events : List Event) → JoinsFewer events → (steps : ℕ) → Joins events steps
    joins_by events fewer zero work scope a b met ready ran leads = cc
    joins_by events fewer (suc steps) work scope a b met ready ran leads =
        at_step events steps met (step work a) (step work b) fewer (joins_by events fewer steps) ran (step_alike f work scope a b ready) leads work b refl

    joins : (events : List Event) (steps : ℕ) → Joins events steps
    joins [] steps = joins_by [] tt steps
    joins (event ∷ events) steps = joins_by (event ∷ events) (λ others. joins events others) steps

  leads_through_trace : IsProgram f → (inputs : List ℤ) (trace : Trace) → LeadsThrough f place.Entry inputs trace.events trace.result
      → IsTrace f inputs trace
  leads_through_trace formed inputs trace leads =
      let a = spread (first_variables f.params) f.vars inputs in
      let next = first_of place.Entry inputs trace.events trace.result leads in
      let met = subst (λ (z : Work). met_within next.segment.steps z (spread (scope_of z) f.vars inputs) ≡ Some next.met) next.segment.from next.segment.met in
      let out = joins formed trace.result trace.events next.segment.steps (start f)
      (first_variables f.params) a a next.met (at_start formed inputs) met next.leads in
      record { steps = out.steps; ran = out.ran 0 }

pub trace_is_segments : TraceIsSegments
trace_is_segments f inputs trace formed long =
    (λ is. trace_leads_through f formed inputs trace is, λ leads. leads_through_trace f formed inputs trace leads)
