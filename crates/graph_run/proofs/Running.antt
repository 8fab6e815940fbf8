-- One step after another makes the run that is judged.
use Rattle.std.proofs.lemmas.List.Elements.{All-cons, All-append}
use Rattle.std.proofs.Math.Nat.{suc-mul}
use Rattle.std.proofs.lemmas.Bool.Decides.{nat_tests}
use Rattle.std.proofs.Common.{◌≡◌, ℕ, suc, ◌+◌, ◌*◌, ◌-◌, ◌<◌, ◌≤◌, Bool, true, false, cond, nat_lt, inl, inr, List, [], ◌∷◌, ◌++◌, length, All, Option, Some, None, ℤ, refl, sym, ap, ◌∙◌, subst, arith, length-set}
use Rattle.std.specs.Option.{option_map}
use Rattle.std.specs.Prelude.{slice_get, slice_set, is_some}
use Rattle.c_ast.specs.declared.trace.Event.{Event}
use Rattle.c_ast.specs.declared.trace.Outcome.{Outcome}
use Rattle.c_ast.specs.declared.trace.Outcome.TheVariants as outcome
use Rattle.c_ast.specs.declared.place.Place.TheVariants as place
use Rattle.c_ast.specs.Value.{eval, is_nonzero}
use Rattle.c_ast.specs.FitsRun.{FitsRun, evaluates_fitting}
use Rattle.c_ast.specs.Step.{first_variables, spread}
use Rattle.c_ast.specs.Outcome.{with_first, returned}
use Rattle.c_ast.proofs.Laws.{spread_has_length}
use Rattle.c_ast.specs.Judged.{at_most}
use Rattle.flow_graph.specs.declared.op.Op.{Op}
use Rattle.flow_graph.specs.Operation.{Operation, Set, Branch, Mark, Return, operation_of}
use Rattle.flow_graph.specs.FlowGraph.{FlowGraph, operation_at, scope_of_stop, variables_at, HasPlace}
use Rattle.flow_graph.specs.Run as graph
use Rattle.flow_graph.specs.Run.{Turn, turn, operand, values_of, seen_turn, seen_at, seen_from}
use Rattle.flow_graph.specs.WellFormed.{IsMark, Leads, Fits, IsFlowGraph}
use Rattle.flow_graph.specs.Judged.{IsGraphJudged}
use Rattle.graph_run.specs.declared.step.Next.{Next}
use Rattle.graph_run.specs.declared.step.Next.TheVariants as next
use Rattle.graph_run.specs.Step.{VariablesAre, TakesStep}
use Rattle.graph_run.specs.Answers.{AllFitRun, TraceFitsRun}
use Rattle.graph_run.proofs.Fitting.{value_fits, set_fits, spread_fits, values_fit}

-- ---- the events in front of what comes of the rest

abbrev pub resumed : List Event → Option Outcome → Option Outcome
resumed [] o = o
resumed (event ∷ events) o = with_first event (resumed events o)

resumed-append : (events : List Event) (event : Event) (o : Option Outcome) → resumed (events ++ event ∷ []) o ≡ resumed events (with_first event o)
resumed-append [] event o = refl
resumed-append (first ∷ events) event o = ap (with_first first) (resumed-append events event o)

resumed-returned : (events : List Event) (value : ℤ) → resumed events (Some (returned value))
    ≡ Some (outcome.Returned (record { events = events; result = value }))
resumed-returned [] value = refl
resumed-returned (first ∷ events) value = ap (with_first first) (resumed-returned events value)

resumed-Wide : (events : List Event) → resumed events (Some outcome.Wide) ≡ Some outcome.Wide
resumed-Wide [] = refl
resumed-Wide (first ∷ events) = ap (with_first first) (resumed-Wide events)

resumed-CutOff : (events : List Event) → resumed events (Some outcome.CutOff) ≡ Some outcome.CutOff
resumed-CutOff [] = refl
resumed-CutOff (first ∷ events) = ap (with_first first) (resumed-CutOff events)

-- ---- how far a node is from the next mark

abbrev pub rank_of : Option Operation → ℕ → ℕ
rank_of (Some (Mark mark after)) node = 0
rank_of _ node = suc node

rank_small : (op : Option Operation) (node count : ℕ) → node < count → rank_of op node ≤ count
rank_small None node count below = omega arith
rank_small (Some (Set x e n)) node count below = omega arith
rank_small (Some (Branch e n m)) node count below = omega arith
rank_small (Some (Mark k n)) node count below = omega arith
rank_small (Some (Return e)) node count below = omega arith

rank_falls : (at : ℕ → Option Operation) (count node after : ℕ) → Leads at count node after → rank_of (at after) after < suc node
rank_falls at count node after (below, inl lower) = omega (arith, rank_small (at after) after (suc after) (omega arith))
rank_falls at count node after (below, inr mark) = on (at after) mark
  where
    on : (op : Option Operation) → IsMark op → rank_of op after < suc node
    on None h = absurd h
    on (Some (Set x e n)) h = absurd h
    on (Some (Branch e n m)) h = absurd h
    on (Some (Mark k n)) h = omega arith
    on (Some (Return e)) h = absurd h

-- ---- what a step does

variables_are : (at : ℕ → Option Operation) (count vars node : ℕ) (op : Operation) → Fits at count vars node op → VariablesAre vars op
variables_are at count vars node (Set x e n) fits = (fits.0, fits.1)
variables_are at count vars node (Branch e n m) fits = fits.0
variables_are at count vars node (Mark k n) fits = tt
variables_are at count vars node (Return e) fits = fits

-- a step to another node, with an environment as long, whose values fit as well
record Goes (at : ℕ → Option Operation) (count : ℕ) (op : Operation) (node : ℕ) (env : List ℤ) (after : ℕ) (new : List ℤ) : Type 0 where
  below : after < count
  nearer : rank_of (at after) after < rank_of (Some op) node
  size : length new ≡ length env
  values : AllFitRun new

step_goes : (at : ℕ → Option Operation) (count vars node after : ℕ) (op : Operation) (env new : List ℤ) → Fits at count vars node op → AllFitRun env
    → evaluates_fitting (operand op) env ≡ true → turn op env ≡ graph.Goes after new → Goes at count op node env after new
step_goes at count vars node after (Set x e n) env new fits values holds is =
    let after_is : n ≡ after = cc in
    let new_is : slice_set env x (eval e env) ≡ new = cc in
    let leads = subst (Leads at count node) after_is fits.2 in
    record {
      below = leads.0;
      nearer = rank_falls at count node after leads;
      size = ap length (sym new_is) ∙ length-set env x (eval e env);
      values = subst AllFitRun new_is (set_fits env x (eval e env) values (value_fits e env holds));
    }
step_goes at count vars node after (Branch e n m) env new fits values holds is =
    let after_is : cond (is_nonzero (eval e env)) n m ≡ after = cc in
    let new_is : env ≡ new = cc in
    let leads = subst (Leads at count node) after_is (on (is_nonzero (eval e env)) fits.1 fits.2) in
    record { below = leads.0; nearer = rank_falls at count node after leads; size = ap length (sym new_is); values = subst AllFitRun new_is values }
  where
    on : (t : Bool) → Leads at count node n → Leads at count node m → Leads at count node (cond t n m)
    on true p q = p
    on false p q = q
step_goes at count vars node after (Mark k n) env new fits values holds is = absurd cc
step_goes at count vars node after (Return e) env new fits values holds is = absurd cc

record Passes (count : ℕ) (op : Operation) (env : List ℤ) (mark after : ℕ) (new : List ℤ) : Type 0 where
  op_is : op ≡ Mark mark after
  env_is : env ≡ new
  below : after < count

step_passes : (at : ℕ → Option Operation) (count vars node mark after : ℕ) (op : Operation) (env new : List ℤ) → Fits at count vars node op
    → turn op env ≡ graph.Passes mark after new → Passes count op env mark after new
step_passes at count vars node mark after (Set x e n) env new fits is = absurd cc
step_passes at count vars node mark after (Branch e n m) env new fits is = absurd cc
step_passes at count vars node mark after (Mark k n) env new fits is =
    let mark_is : k ≡ mark = cc in
    let after_is : n ≡ after = cc in
    record { op_is = ap (λ (z : ℕ). Mark z n) mark_is ∙ ap (Mark mark) after_is; env_is = (cc); below = subst (λ (z : ℕ). z < count) after_is fits }
step_passes at count vars node mark after (Return e) env new fits is = absurd cc

result_fits : (op : Operation) (env : List ℤ) (value : ℤ) → evaluates_fitting (operand op) env ≡ true → turn op env ≡ graph.Ends value → FitsRun value
result_fits (Set x e n) env value holds is = absurd cc
result_fits (Branch e n m) env value holds is = absurd cc
result_fits (Mark k n) env value holds is = absurd cc
result_fits (Return e) env value holds is = let same : eval e env ≡ value = cc in subst FitsRun same (value_fits e env holds)

-- ---- the rest of a run

-- From this node and environment on, with these events passed and `left` marks to go, whatever is seen is what comes of
-- the whole run.
pub record Runs (g : FlowGraph) (inputs : List ℤ) (limit left : ℕ) (events : List Event) (node : ℕ) (env : List ℤ) : Type 0 where
  pub below : node < length g.ops
  pub size : length env ≡ g.vars
  pub values : AllFitRun env
  pub passed : All (λ event. AllFitRun event.values) events
  pub within : left ≤ limit
  pub rest : (steps : ℕ) (o : Option Outcome) (whole : Outcome)
      → seen_from evaluates_fitting (Some outcome.Wide) (at_most limit) returned g steps (limit - left) node env ≡ o
      → resumed events o ≡ Some whole → IsGraphJudged g inputs limit whole

abbrev pub measure : FlowGraph → ℕ → ℕ → ℕ
measure g left node = left * suc (length g.ops) + rank_of (operation_at g node) node

pub begins : (g : FlowGraph) (inputs env : List ℤ) (limit node : ℕ) → length inputs ≡ g.params → AllFitRun inputs
    → env ≡ spread (first_variables (length inputs)) g.vars inputs → node ≡ g.entry → node < length g.ops → Runs g inputs limit limit [] node env
begins g inputs env limit node arity values env_is node_is below =
    let start : env ≡ spread (first_variables g.params) g.vars inputs = env_is ∙ ap (λ (n : ℕ). spread (first_variables n) g.vars inputs) arity in
    record {
      below = below;
      size = ap length start ∙ spread_has_length (first_variables g.params) g.vars inputs;
      values = subst AllFitRun (sym start) (spread_fits (first_variables g.params) 0 g.vars inputs values);
      passed = λ k d below. absurd (omega arith);
      within = omega arith;
      rest = λ steps o whole seen is. record {
        steps = steps;
        is =
            let none : limit - limit ≡ 0 = omega arith in
            ap (λ (n : ℕ). seen_from evaluates_fitting (Some outcome.Wide) (at_most limit) returned g steps 0 n
            (spread (first_variables g.params) g.vars inputs)) (sym node_is)
            ∙ ap (seen_from evaluates_fitting (Some outcome.Wide) (at_most limit) returned g steps 0 node) (sym start)
            ∙ ap (λ (m : ℕ). seen_from evaluates_fitting (Some outcome.Wide) (at_most limit) returned g steps m node env) (sym none) ∙ seen ∙ is;
      };
    }

-- The node has this operation, and the step from it came to `result`.
module _ {g : FlowGraph} {inputs : List ℤ} {limit left : ℕ} {events : List Event} {node : ℕ} {env : List ℤ} (formed : IsFlowGraph g)
    (r : Runs g inputs limit left events node env) {code : Op} (found : slice_get g.ops node ≡ Some code) where
  abbrev op : Operation
  op = operation_of code

  here : operation_at g node ≡ Some op
  here = ap (option_map operation_of) found

  abbrev S : ℕ → ℕ → ℕ → List ℤ → Option Outcome
  S = seen_from evaluates_fitting (Some outcome.Wide) (at_most limit) returned g

  abbrev T : ℕ → ℕ → Turn → Option Outcome
  T n m t = seen_turn evaluates_fitting (Some outcome.Wide) (at_most limit) returned g (S n) m t

  fits : Fits (operation_at g) (length g.ops) g.vars node op
  fits = formed.fit node op here

  pub step_ready : VariablesAre (length env) op
  step_ready = subst (λ (n : ℕ). VariablesAre n op) (sym r.size) (variables_are (operation_at g) (length g.ops) g.vars node op fits)

  seen_fitting : (n m : ℕ) (t : Turn) → evaluates_fitting (operand op) env ≡ true → turn op env ≡ t → S (suc n) m node env ≡ T n m t
  seen_fitting n m t holds is =
      ap (λ (o : Option Operation). seen_at evaluates_fitting (Some outcome.Wide) (at_most limit) returned g (S n) m o env) here
      ∙ ap (λ (b : Bool). cond b (T n m (turn op env)) (Some outcome.Wide)) holds ∙ ap (T n m) is

  seen_wide : (n m : ℕ) → evaluates_fitting (operand op) env ≡ false → S (suc n) m node env ≡ Some outcome.Wide
  seen_wide n m fails =
      ap (λ (o : Option Operation). seen_at evaluates_fitting (Some outcome.Wide) (at_most limit) returned g (S n) m o env) here
      ∙ ap (λ (b : Bool). cond b (T n m (turn op env)) (Some outcome.Wide)) fails

  module _ (new : List ℤ) {after : ℕ} {result : Next} (is : result ≡ next.Goes after) (taken : TakesStep op env result new) where
    going_taken : TakesStep op env (next.Goes after) new
    going_taken = subst (λ (n : Next). TakesStep op env n new) is taken

    goes_on : Goes (operation_at g) (length g.ops) op node env after new
    goes_on = step_goes (operation_at g) (length g.ops) g.vars node after op env new fits r.values going_taken.0 going_taken.1

    pub goes : Runs g inputs limit left events after new
    goes = record {
      below = goes_on.below;
      size = goes_on.size ∙ r.size;
      values = goes_on.values;
      passed = r.passed;
      within = r.within;
      rest = λ steps o whole seen whole_is. r.rest (suc steps) o whole
          (seen_fitting steps (limit - left) (graph.Goes after new) going_taken.0 going_taken.1 ∙ seen) whole_is;
    }

    pub goes_nearer : measure g left after < measure g left node
    goes_nearer = omega (arith, goes_on.nearer, ap (λ (o : Option Operation). rank_of o node) here)

  module _ (new : List ℤ) {mark after : ℕ} {result : Next} (is : result ≡ next.Passes mark after) (taken : TakesStep op env result new) where
    passing_taken : TakesStep op env (next.Passes mark after) new
    passing_taken = subst (λ (n : Next). TakesStep op env n new) is taken

    passing : Passes (length g.ops) op env mark after new
    passing = step_passes (operation_at g) (length g.ops) g.vars node mark after op env new fits passing_taken.1

    seen_pass : (n m : ℕ) → S (suc n) m node env ≡ at_most limit m mark (values_of (variables_at g (place.Mark mark)) new) (S n (suc m) after new)
    seen_pass n m = seen_fitting n m (graph.Passes mark after new) passing_taken.0 passing_taken.1

    pub has_place : HasPlace g (place.Mark mark)
    has_place = let stop = formed.marks node mark after (here ∙ ap Some passing.op_is) in ap (λ o. is_some o) stop.found

    pub variables_below : All (λ x. x < length new) (variables_at g (place.Mark mark))
    variables_below =
        let known = formed.marks node mark after (here ∙ ap Some passing.op_is) in
        let scope : variables_at g (place.Mark mark) ≡ known.stop.scope = ap scope_of_stop known.found in
        let below = (formed.afters mark known.stop known.found).1 in
        let size : g.vars ≡ length new = sym r.size ∙ ap length passing.env_is in
        subst (λ (n : ℕ). All (λ (x : ℕ). x < n) (variables_at g (place.Mark mark))) size
        (subst (λ (z : List ℕ). All (λ (x : ℕ). x < g.vars) z) (sym scope) below)

    pub not_ended : left ≡ 0 → IsGraphJudged g inputs limit outcome.CutOff
    not_ended none =
        let over : nat_lt (limit - left) limit ≡ false = grind (arith, nat_tests) in
        r.rest 1 (Some outcome.CutOff) outcome.CutOff
        (seen_pass 0 (limit - left)
        ∙ ap (λ (b : Bool). cond b (with_first (record { mark = mark; values = values_of (variables_at g (place.Mark mark)) new }) None)
        (Some outcome.CutOff)) over) (resumed-CutOff events)

    module _ {left' : ℕ} (left_is : left ≡ suc left') {event : Event}
        (event_is : event ≡ record { mark = mark; values = values_of (variables_at g (place.Mark mark)) new }) where
      later : limit - left' ≡ suc (limit - left)
      later = omega (arith, r.within)

      seen_event : (n : ℕ) → S (suc n) (limit - left) node env ≡ with_first event (S n (limit - left') after new)
      seen_event n =
          let under : nat_lt (limit - left) limit ≡ true = (let le = r.within in grind (arith, nat_tests)) in
          seen_pass n (limit - left)
          ∙ ap (λ (b : Bool). cond b (with_first (record { mark = mark; values = values_of (variables_at g (place.Mark mark)) new })
          (S n (suc (limit - left)) after new)) (Some outcome.CutOff)) under
          ∙ ap (λ (e : Event). with_first e (S n (suc (limit - left)) after new)) (sym event_is)
          ∙ ap (λ (m : ℕ). with_first event (S n m after new)) (sym later)

      new_fits : AllFitRun new
      new_fits = subst AllFitRun passing.env_is r.values

      event_fits : AllFitRun event.values
      event_fits = subst (λ (e : Event). AllFitRun e.values) (sym event_is) (values_fit (variables_at g (place.Mark mark)) new new_fits)

      pub passes : Runs g inputs limit left' (events ++ event ∷ []) after new
      passes = record {
        below = passing.below;
        size = ap length (sym passing.env_is) ∙ r.size;
        values = new_fits;
        passed = All-append (λ (e : Event). AllFitRun e.values) events (event ∷ []) r.passed
            (All-cons (λ (e : Event). AllFitRun e.values) event [] event_fits (λ k d below. absurd (omega arith)));
        within = omega (arith, r.within);
        rest = λ steps o whole seen whole_is. r.rest (suc steps) (with_first event o) whole (seen_event steps ∙ ap (with_first event) seen)
            (sym (resumed-append events event o) ∙ whole_is);
      }

      pub passes_nearer : measure g left' after < measure g left node
      passes_nearer =
          let small = rank_small (operation_at g after) after (length g.ops) passing.below in
          let product : left * suc (length g.ops) ≡ suc (length g.ops) + left' * suc (length g.ops) = ap (λ (n : ℕ). n * suc (length g.ops)) left_is
          ∙ suc-mul left' (suc (length g.ops)) ∙ omega arith in
          omega (arith, small, product)

  module _ (new : List ℤ) {value : ℤ} {result : Next} (is : result ≡ next.Ends value) (taken : TakesStep op env result new) where
    ending_taken : TakesStep op env (next.Ends value) new
    ending_taken = subst (λ (n : Next). TakesStep op env n new) is taken

    pub ends : IsGraphJudged g inputs limit (outcome.Returned (record { events = events; result = value }))
    ends = r.rest 1 (Some (returned value)) _ (seen_fitting 0 (limit - left) (graph.Ends value) ending_taken.0 ending_taken.1) (resumed-returned events value)

    pub ends_fit : TraceFitsRun (record { events = events; result = value })
    ends_fit = record { events = r.passed; result = result_fits op env value ending_taken.0 ending_taken.1 }

  pub meets_wide : (new : List ℤ) {result : Next} → result ≡ next.Wide → TakesStep op env result new → IsGraphJudged g inputs limit outcome.Wide
  meets_wide new is taken = r.rest 1 (Some outcome.Wide) outcome.Wide (seen_wide 0 (limit - left) (subst (λ (n : Next). TakesStep op env n new) is taken))
      (resumed-Wide events)
