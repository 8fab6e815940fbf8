-- The graph of a function: what is built does what the function does, and is well formed.
use Rattle.std.proofs.lemmas.List.{length-map}
use Rattle.std.specs.List.Sorted.{IsStrictlyIncreasing}
use Rattle.std.proofs.Common.{◌≡◌, ◌↔◌, ℕ, zero, suc, ◌<◌, ◌^◌, Bool, false, inl, inr, List, [], ◌∷◌, length, All, Option, Some, None, IsSome, ℤ, pos, refl, sym, ap, ◌∙◌, subst, arith}
use Rattle.std.specs.Prelude.{filter_map, slice_get}
use Rattle.std.specs.Option.{option_map}
use Rattle.c_ast.specs.declared.expr.Expr.{Expr, Num, fold_out-Expr, map-Expr}
use Rattle.c_ast.specs.declared.expr.Expr.TheOpen.{Expr-F}
use Rattle.c_ast.specs.declared.expr.Expr.TheVariants.{outs-Num}
use Rattle.c_ast.specs.declared.stmt.Stmt.{Stmt}
use Rattle.c_ast.specs.declared.place.Place.{Place}
use Rattle.c_ast.specs.declared.place.Place.TheVariants as place
use Rattle.c_ast.specs.declared.trace.Outcome.TheVariants as outcome
use Rattle.c_ast.specs.Tree as tree
use Rattle.c_ast.specs.Tree.{Expression, Statements, Program}
use Rattle.c_ast.specs.View.{expression_level, expression_of, statements_of}
use Rattle.c_ast.specs.Function.{Function, IsFunction, program_of}
use Rattle.c_ast.specs.Step.{Scope, LoopParts, Run, Test, Cond, Tail, Work, scope_of, first_variables, start, values_in, spread, seen}
use Rattle.c_ast.specs.Returns.{always}
use Rattle.c_ast.specs.Trace.{with_event, no_event}
use Rattle.c_ast.specs.Segment.{StandsIn, Follows, GoesOnFrom, FitsPlace, at_mark, at_exit}
use Rattle.c_ast.specs.Formed.{marks}
use Rattle.c_ast.specs.Scope.{IsPlace, variables_in}
use Rattle.c_ast.specs.FitsRun.{evaluates_fitting}
use Rattle.c_ast.specs.Outcome.{returned}
use Rattle.c_ast.specs.Judged.{at_most}
use Rattle.c_ast.specs.Ahead.{IsAhead}
use Rattle.c_ast.proofs.Laws.{marks_are_ahead, marks_are_ahead_at_start, spread_has_length, parameters_are_below, values_are_listed}
use Rattle.flow_graph.specs.declared.op.Op.{Op}
use Rattle.flow_graph.specs.declared.stop.Stop.{Stop}
use Rattle.flow_graph.specs.Operation.{Operation, Mark, Return, operation_of}
use Rattle.flow_graph.specs.FlowGraph.{FlowGraph, stop_of, next_of, scope_of_stop, node_after, variables_at, width_at, GoesOnAt, HasPlace}
use Rattle.flow_graph.specs.Run.{values_of, seen_from}
use Rattle.flow_graph.specs.WellFormed.{Fits, IsFlowGraph}
use Rattle.flow_graph.specs.Built.{IsGraphOf}
use Rattle.flow_graph.specs.Layout.{Slots, slots_of, Layout, layout, added, lay, ending, all_filled, IsLaidOut}
use Rattle.flow_graph.specs.Stops.{MarksOf, AreStops}
use Rattle.flow_graph.proofs.Growing.{lay_grows, slots_of-length}
use Rattle.flow_graph.proofs.Laid.{Table, TestLaid, Laid, LoopLaid, IsEnd, WorkLaid, Extends, laid_more, grows_extends, table_of, lay_laid}
use Rattle.flow_graph.proofs.Closing.{opens, closed_table, closed_length, closed_filled}
use Rattle.flow_graph.proofs.Counting.{slot_marks, some_marks, one_node, lay_counts, stands_somewhere}
use Rattle.flow_graph.proofs.Fitting.{LayFits, lay_fits, fits_more}
use Rattle.flow_graph.proofs.Listing.{spread-variables_in, parameters_counted, variables_in-All}
use Rattle.flow_graph.proofs.Rising.{listed_rise}
use Rattle.flow_graph.proofs.Simulates.{Shows, AcceptsNone, OfGraph, OfSource, forward, backward}

-- ---- each mark of the function has its node

record Found (at : Table) (mark : ℕ) (v : Work) : Type 0 where
  slot : ℕ
  node : ℕ
  is : at slot ≡ Some (Mark mark node)
  b : ℕ
  t : ℕ
  laid : WorkLaid at v node b t

module _ (at : Table) where
  test_found : (m : Option ℕ) (s : Scope) (l : LoopParts) (w : Work) (head body tail out b t k : ℕ) (v : Work) → m ≡ Some k → v ≡ Cond s l ∷ w
      → TestLaid at m l.cond head body out → LoopLaid at l head body tail out b t → WorkLaid at w out b t → Found at k v
  test_found None s l w head body tail out b t k v e q h r g = cc
  test_found (Some j) s l w head body tail out b t k v e q h r g =
      let p : j ≡ k = cc in
      record {
        slot = head;
        node = h.0;
        is = h.1 ∙ ap (λ (z : ℕ). Some (Mark z h.0)) p;
        b = b;
        t = t;
        laid = subst (λ (z : Work). WorkLaid at z h.0 b t) (sym q) (head, body, tail, out, r, h.2, g);
      }

  position : (c : Statements) (s : Scope) (w : Work) (n m b t k : ℕ) (v : Work) → Laid at c n m b t → WorkLaid at w m b t → StandsIn s c w k v → Found at k v
  position tree.Nil s w n m b t k v h g p = absurd p
  position (tree.Set x e c) s w n m b t k v h g p = position c (x ∷ s) w h.0 m b t k v h.2 g p
  position (tree.If e x y c) s w n m b t k v h g (inl p) = position x s (Run s c ∷ w) h.0 h.2 b t k v h.4 (m, h.6, g) p
  position (tree.If e x y c) s w n m b t k v h g (inr (inl p)) = position y s (Run s c ∷ w) h.1 h.2 b t k v h.5 (m, h.6, g) p
  position (tree.If e x y c) s w n m b t k v h g (inr (inr p)) = position c s w h.2 m b t k v h.6 g p
  position (tree.Loop j e x y f c) s w n m b t k v h g (inl p) =
      let l : LoopParts = record { mark = j; cond = e; body = x; step = y } in
      let r : LoopLaid at l h.0 h.1 h.2 h.3 b t = record { test = h.4; inner = h.5; last = h.6 } in
      test_found j s l (Run s c ∷ w) h.0 h.1 h.2 h.3 b t k v p.0 p.1 h.4 r (m, h.8, g)
  position (tree.Loop j e x y f c) s w n m b t k v h g (inr (inl p)) =
      let l : LoopParts = record { mark = j; cond = e; body = x; step = y } in
      let r : LoopLaid at l h.0 h.1 h.2 h.3 b t = record { test = h.4; inner = h.5; last = h.6 } in
      position x s (Tail s l ∷ Run s c ∷ w) h.1 h.2 h.3 h.2 k v h.5 (h.0, h.1, b, t, r, refl, (m, h.8, g)) p
  position (tree.Loop j e x y f c) s w n m b t k v h g (inr (inr (inl p))) =
      let l : LoopParts = record { mark = j; cond = e; body = x; step = y } in
      let r : LoopLaid at l h.0 h.1 h.2 h.3 b t = record { test = h.4; inner = h.5; last = h.6 } in
      position y s (Test s l ∷ Run s c ∷ w) h.2 h.0 b t k v h.6 (h.1, h.2, h.3, r, (m, h.8, g)) p
  position (tree.Loop j e x y f c) s w n m b t k v h g (inr (inr (inr p))) = position c s w h.3 m b t k v h.8 g p
  position (tree.Break c) s w n m b t k v h g p = position c s w h.1 m b t k v h.2 g p
  position (tree.Continue c) s w n m b t k v h g p = position c s w h.1 m b t k v h.2 g p
  position (tree.Return e c) s w n m b t k v h g p = position c s w h.1 m b t k v h.2 g p
  position (tree.Mark j c) s w n m b t k v h g (inl p) =
      record {
        slot = n;
        node = h.0;
        is = h.1 ∙ ap (λ (z : ℕ). Some (Mark z h.0)) p.0;
        b = b;
        t = t;
        laid = subst (λ (z : Work). WorkLaid at z h.0 b t) (sym p.1) (m, h.2, g);
      }
  position (tree.Mark j c) s w n m b t k v h g (inr p) = position c s w h.0 m b t k v h.2 g p
  position (tree.Block x c) s w n m b t k v h g (inl p) = position x s (Run s c ∷ w) n h.0 b t k v h.1 (m, h.2, g) p
  position (tree.Block x c) s w n m b t k v h g (inr p) = position c s w h.0 m b t k v h.2 g p

-- ---- what the code has built

-- The operations are those of slots in which the function's statements are laid in front of the end.
pub record AreClosed (f : Program) (ops : List Op) (entry : ℕ) : Type 0 where
  pub slots : List (Option Op)
  pub laid : layout (slots_of slots) entry ≡ lay f.body ending 0 0 0
  pub ops_are : ops ≡ filter_map (λ slot. slot) slots
  pub numbered : length slots < 2 ^ 32

module _ (f : Function) (is : IsFunction f) (ops : List Op) (entry : ℕ) (out : AreClosed (program_of f) ops entry) where
  abbrev final : Layout
  final = lay (statements_of f.body) ending 0 0 0

  slots_are : slots_of out.slots ≡ final.slots
  slots_are = ap (λ (z : Layout). z.slots) out.laid

  unfilled : opens (slots_of out.slots) ≡ 0
  unfilled = ap opens slots_are ∙ (lay_counts 0 (statements_of f.body) ending 0 0 0).unfilled

  -- the operations stand where the layout has them
  table : (i : ℕ) → table_of final.slots i ≡ option_map operation_of (slice_get ops i)
  table i =
      ap (λ (z : Slots). table_of z i) (sym slots_are) ∙ closed_table out.slots i unfilled
      ∙ ap (λ (z : List Op). option_map operation_of (slice_get z i)) (sym out.ops_are)

  count : length ops ≡ length final.slots
  count = ap length out.ops_are ∙ closed_length out.slots unfilled ∙ ap length slots_are

  -- the slots of the operations are those of the layout
  laid_out_whole : IsLaidOut (program_of f) ops entry
  laid_out_whole = ap (λ (z : Slots). layout z entry) (ap all_filled out.ops_are ∙ closed_filled out.slots unfilled) ∙ out.laid

  -- the statements are laid over the operations
  abbrev at : Table
  at i = option_map operation_of (slice_get ops i)

  abbrev program : Program
  program = program_of f

  extends : Extends (table_of final.slots) at
  extends = record { by = λ i o h. sym (table i) ∙ h }

  node_is : entry ≡ final.node
  node_is = ap (λ (z : Layout). z.node) out.laid

  laid : Laid at program.body entry 0 0 0
  laid = subst (λ (n : ℕ). Laid at program.body n 0 0 0) (sym node_is)
      (laid_more program.body (table_of final.slots) at extends final.node 0 0 0 (lay_laid program.body ending 0 0 0))

  end : IsEnd at 0
  end = extends.by 0 (Return (tree.Num (pos 0)))
      ((grows_extends ending final.slots (lay_grows program.body ending 0 0 0)).by 0 (Return (tree.Num (pos 0))) refl)

  -- each mark has a node
  found : (mark : ℕ) (w : Work) → Follows program mark w → Found at mark w
  found mark w follows = position at program.body (first_variables f.params) [] entry 0 0 0 mark w laid (end, end, end) follows

  few_marks : (mark : ℕ) → slot_marks mark final.slots ≡ marks mark (statements_of f.body)
  few_marks mark = omega (arith, (lay_counts mark (statements_of f.body) ending 0 0 0).marks)

  pub marks_of : MarksOf (program_of f) ops
  marks_of = record {
    places = λ node mark next here.
        let some = some_marks final.slots node mark next (table node ∙ here) in
        let stands = stands_somewhere (statements_of f.body) (first_variables f.params) [] mark (omega (arith, few_marks mark, some)) in
        record { work = stands.0; from = stands.1 };
    once = λ first second mark next after p q. one_node final.slots first second mark next after (omega (arith, few_marks mark, is.marked_once mark))
        (table first ∙ p) (table second ∙ q);
    all = λ mark is_place. let o = found mark is_place.work is_place.from in (o.slot, o.node, o.is);
  }

  fits : LayFits (length f.vars) final.slots final.node
  fits = lay_fits (statements_of f.body) (length f.vars)
      (first_variables f.params) false ending 0 0 0 (parameters_are_below f.params (length f.vars) is.parameters) is.formed (record {
        fit = record { by = ending_fits };
        next = omega arith;
        out = omega arith;
        again = omega arith;
      })
    where
      ending_fits : (i : ℕ) (op : Operation) → table_of ending i ≡ Some op → Fits (table_of ending) (length ending) (length f.vars) i op
      ending_fits zero op h = let same : Return (tree.Num (pos 0))
          ≡ op = cc in subst (λ (o : Operation). Fits (table_of ending) (length ending) (length f.vars) zero o) same tt
      ending_fits (suc i) op h = cc

  -- ---- with its marks

  fit : (node : ℕ) (o : Operation) → at node ≡ Some o → Fits at (length ops) (length f.vars) node o
  fit node o here = fits_more (table_of final.slots) _ extends (length final.slots) (length ops) (length f.vars) node o (omega (arith, count))
      (fits.fit.by node o (table node ∙ here))

  module _ (stops : List Stop) (are : AreStops (program_of f) ops stops) where
    afters : (mark : ℕ) (stop : Stop) → stop_of stops mark ≡ Some stop → (stop.next < length ops) × All (λ x. x < length f.vars) stop.scope
        × IsStrictlyIncreasing stop.scope
    afters mark stop found =
        let o = are.only mark stop found in
        let p = marks_of.places o.0 mark stop.next o.1 in
        let scope_is = sym (o.2 p.work p.from) in (
          fit o.0 (Mark mark stop.next) o.1,
          subst (All (λ (x : ℕ). x < length f.vars)) scope_is (variables_in-All (scope_of p.work) (length f.vars)),
          subst IsStrictlyIncreasing scope_is (listed_rise (scope_of p.work) (length f.vars)),
        )

    pub well_formed : IsFlowGraph (record { params = f.params; vars = length f.vars; ops = ops; entry = entry; stops = stops })
    well_formed = record {
      few = is.few;
      parameters = is.parameters;
      count = omega (arith, count, ap length slots_are, slots_of-length out.slots, out.numbered);
      entry = omega (arith, node_is, fits.within, count);
      fit = fit;
      marks = are.each;
      rising = are.rising;
      afters = afters;
    }

    abbrev graph : FlowGraph
    graph = record { params = f.params; vars = length f.vars; ops = ops; entry = entry; stops = stops }

    -- what the graph knows of a mark of the function
    record Knows (mark : ℕ) (w : Work) : Type 0 where
      b : ℕ
      t : ℕ
      laid : WorkLaid at w (node_after graph (place.Mark mark)) b t
      known : IsSome (stop_of stops mark)
      scope : variables_at graph (place.Mark mark) ≡ variables_in (scope_of w) (length f.vars)

    knows : (mark : ℕ) (w : Work) → Follows program mark w → Knows mark w
    knows mark w follows =
        let o = found mark w follows in
        let stop = are.each o.slot mark o.node o.is in
        let node : next_of (stop_of stops mark) ≡ o.node = ap next_of stop.found ∙ stop.next_is in
        record {
          b = o.b;
          t = o.t;
          laid = subst (λ (n : ℕ). WorkLaid at w n o.b o.t) (sym node) o.laid;
          known = subst IsSome (sym stop.found) refl;
          scope = ap scope_of_stop stop.found ∙ (are.only mark stop.stop stop.found).2 w follows;
        }

    shows : Shows program graph
    shows = record {
      by = λ mark w follows env len.
          let k = knows mark w follows in
          ap (λ (z : List ℕ). values_of z env) (k.scope ∙ ap (variables_in (scope_of w)) (sym len)) ∙ values_are_listed (scope_of w) env;
    }

    -- the node at which a run goes on from a place
    record Starts (l : Place) (w : Work) : Type 0 where
      b : ℕ
      t : ℕ
      laid : WorkLaid at w (node_after graph l) b t
      placed : IsAhead program w
      from : GoesOnAt graph l
      scope : variables_at graph l ≡ variables_in (scope_of w) (length f.vars)

    starts : (l : Place) (w : Work) → GoesOnFrom program l w → Starts l w
    starts place.Entry w from = record {
      b = 0;
      t = 0;
      laid = subst (λ (z : Work). WorkLaid at z entry 0 0) (sym from) (0, laid, (end, end, end));
      placed = subst (λ (z : Work). IsAhead program z) (sym from) (marks_are_ahead_at_start program);
      from = tt;
      scope = ap (λ (z : Work). variables_in (scope_of z) (length f.vars)) (sym from);
    }
    starts (place.Mark mark) w from =
        let k = knows mark w from in
        record { b = k.b; t = k.t; laid = k.laid; placed = marks_are_ahead program (place.Mark mark) w from; from = k.known; scope = k.scope }
    starts place.Exit w from = absurd from

    values_same : (l : Place) (w : Work) → Starts l w → (e : List ℤ) → spread (variables_at graph l) (length f.vars) e ≡ spread (scope_of w) (length f.vars) e
    values_same l w s e = ap (λ (z : List ℕ). spread z (length f.vars) e) s.scope ∙ spread-variables_in (scope_of w) (length f.vars) e

    a_place : (l : Place) → GoesOnAt graph l → IsPlace program l
    a_place place.Entry goes = record { work = start program; from = refl }
    a_place (place.Mark mark) goes = on (stop_of stops mark) refl goes
      where
        on : (o : Option Stop) → stop_of stops mark ≡ o → IsSome o → IsPlace program (place.Mark mark)
        on None found some = absurd cc
        on (Some stop) found some = let o = are.only mark stop found in marks_of.places o.0 mark stop.next o.1
    a_place place.Exit goes = absurd goes

    -- the values that fit the function's place fit the graph's
    mark_width : (mark : ℕ) (w : Work) → Follows program mark w → length (values_in (scope_of w) (spread [] (length f.vars) []))
        ≡ width_at graph (place.Mark mark)
    mark_width mark w follows =
        let env = spread [] (length f.vars) [] in
        ap length (sym (values_are_listed (scope_of w) env)) ∙ length-map (variables_in (scope_of w) (length env)) _
        ∙ ap (λ (n : ℕ). length (variables_in (scope_of w) n)) (spread_has_length [] (length f.vars) []) ∙ ap length (sym (knows mark w follows).scope)

    place_fits : (l : Place) (e : List ℤ) → HasPlace graph l → FitsPlace program l e ↔ (length e ≡ width_at graph l)
    place_fits place.Entry e has =
        let width = parameters_counted f.params (length f.vars) is.parameters in
        (λ fits. fits ∙ sym width, λ fits. fits ∙ width)
    place_fits (place.Mark mark) e has =
        let p = a_place (place.Mark mark) has in
        (λ fits. fits.2 ∙ mark_width mark fits.0 fits.1, λ fits. (p.work, p.from, fits ∙ sym (mark_width mark p.work p.from)))
    place_fits place.Exit e has = (λ fits. fits, λ fits. fits)

    -- whatever is observed from a place on
    module _ {R : Type 0} (holds : Option Expression → List ℤ → Bool) (failed : Option R) (pass : ℕ → ℕ → List ℤ → Option R → Option R) (done : ℤ → R)
        (accepts : AcceptsNone holds) where
      to_graph : (l : Place) (w : Work) → GoesOnFrom program l w → (e : List ℤ) (r : R) (steps : ℕ)
          → seen holds failed pass done steps 0 w (spread (scope_of w) (length f.vars) e) ≡ Some r
          → OfGraph holds failed pass done accepts program graph shows 0 (node_after graph l) (spread (variables_at graph l) (length f.vars) e) r
      to_graph l w from e r steps is =
          let s = starts l w from in
          forward holds failed pass done accepts program graph shows steps 0 w (node_after graph l) s.b s.t (spread (variables_at graph l)
          (length f.vars) e) r s.placed (spread_has_length (variables_at graph l) (length f.vars) e) s.laid
          (ap (seen holds failed pass done steps 0 w) (values_same l w s e) ∙ is)

      to_source : (l : Place) (w : Work) → GoesOnFrom program l w → (e : List ℤ) (r : R) (steps : ℕ)
          → seen_from holds failed pass done graph steps 0 (node_after graph l) (spread (variables_at graph l) (length f.vars) e) ≡ Some r
          → OfSource holds failed pass done accepts program graph shows 0 w (spread (scope_of w) (length f.vars) e) r
      to_source l w from e r steps is =
          let s = starts l w from in
          backward holds failed pass done accepts program graph shows steps 0 w (node_after graph l) s.b s.t (spread (scope_of w)
          (length f.vars) e) r s.placed (spread_has_length (scope_of w) (length f.vars) e) s.laid
          (ap (seen_from holds failed pass done graph steps 0 (node_after graph l)) (sym (values_same l w s e)) ∙ is)

      -- from the entry, where the parameters have values
      begin_graph : (inputs : List ℤ) (r : R) (steps : ℕ)
          → seen holds failed pass done steps 0 (start program) (spread (first_variables f.params) (length f.vars) inputs) ≡ Some r
          → OfGraph holds failed pass done accepts program graph shows 0 entry (spread (first_variables f.params) (length f.vars) inputs) r
      begin_graph inputs r steps is =
          forward holds failed pass done accepts program graph shows steps 0 (start program) entry 0 0 (spread (first_variables f.params)
          (length f.vars) inputs) r (marks_are_ahead_at_start program)
          (spread_has_length (first_variables f.params) (length f.vars) inputs) (0, laid, (end, end, end)) is

      begin_source : (inputs : List ℤ) (r : R) (steps : ℕ)
          → seen_from holds failed pass done graph steps 0 entry (spread (first_variables f.params) (length f.vars) inputs) ≡ Some r
          → OfSource holds failed pass done accepts program graph shows 0 (start program) (spread (first_variables f.params) (length f.vars) inputs) r
      begin_source inputs r steps is =
          backward holds failed pass done accepts program graph shows steps 0 (start program) entry 0 0 (spread (first_variables f.params)
          (length f.vars) inputs) r (marks_are_ahead_at_start program)
          (spread_has_length (first_variables f.params) (length f.vars) inputs) (0, laid, (end, end, end)) is

    always_accepts : AcceptsNone always
    always_accepts = record { by = λ env. refl }

    fitting_accepts : AcceptsNone evaluates_fitting
    fitting_accepts = record { by = λ env. refl }

    pub is_graph : IsGraphOf (program_of f) (record { params = f.params; vars = length f.vars; ops = ops; entry = entry; stops = stops })
    is_graph = record {
      params = refl;
      vars = refl;
      places = λ l. (a_place l, λ p. (starts l p.work p.from).from);
      scopes = λ l p work from. (starts l work from).scope;
      fits = place_fits;
      laid = laid_out_whole;
      stops = are;
      traces = λ inputs trace. (
        λ h. (let o = begin_graph always None with_event no_event always_accepts inputs trace h.steps h.ran in record { steps = o.steps; ran = o.is }),
        λ h. (let o = begin_source always None with_event no_event always_accepts inputs trace h.steps h.ran in record { steps = o.steps; ran = o.is }),
      );
      segments = λ l e l' e'. (
        λ h. (let o = to_graph always None at_mark at_exit always_accepts l h.work h.from e (l', e')
            h.steps h.met in record { from = (starts l h.work h.from).from; steps = o.steps; met = o.is }),
        λ h. (let p = a_place l h.from in let o = to_source always None at_mark at_exit always_accepts l p.work p.from e (l', e')
            h.steps h.met in record { work = p.work; from = p.from; steps = o.steps; met = o.is }),
      );
      judged = λ inputs limit result. (
        λ h. (let o = begin_graph evaluates_fitting (Some outcome.Wide)
            (at_most limit) returned fitting_accepts inputs result h.steps h.is in record { steps = o.steps; is = o.is }),
        λ h. (let o = begin_source evaluates_fitting (Some outcome.Wide)
            (at_most limit) returned fitting_accepts inputs result h.steps h.is in record { steps = o.steps; is = o.is }),
      );
    }

-- ---- the same, from what the code knows

zero_is : expression_of (Num (pos 0)) ≡ tree.Num (pos 0)
zero_is = fold_out-Expr Expression expression_level (Num (pos 0))
    ∙ ap (λ (y : Expr-F Expr). expression_level (map-Expr Expr Expression expression_of y)) (outs-Num (pos 0))

pub laid_out : (f : Function) (none first slots : List (Option Op)) (ops : List Op) (body : List Stmt) (end entry : ℕ) → none ≡ []
    → layout (slots_of first) end ≡ added (slots_of none) (Some (Return (expression_of (Num (pos 0))))) → body ≡ f.body → layout (slots_of slots) entry
    ≡ lay (statements_of body) (slots_of first) end end end
    → length slots < 2 ^ 32 → ops ≡ filter_map (λ slot. slot) slots → AreClosed (program_of f) ops entry
laid_out f none first slots ops body end entry none_is first_is body_is laid numbered ops_are =
    let start : layout (slots_of first) end ≡ layout ending 0 =
    first_is ∙ ap (λ (z : List (Option Op)). added (slots_of z) (Some (Return (expression_of (Num (pos 0)))))) none_is
    ∙ ap (λ (e : Expression). layout (Some (Return e) ∷ []) 0) zero_is in
    record {
      slots = slots;
      laid = laid ∙ ap (λ (z : Layout). lay (statements_of body) z.slots z.node z.node z.node) start
          ∙ ap (λ (z : List Stmt). lay (statements_of z) ending 0 0 0) body_is;
      ops_are = ops_are;
      numbered = numbered;
    }

pub marks_listed : (f : Function) (ops listed : List Op) (entry : ℕ) → IsFunction f → AreClosed (program_of f) ops entry → listed ≡ ops
    → MarksOf (program_of f) listed
marks_listed f ops listed entry is out listed_is = subst (MarksOf (program_of f)) (sym listed_is) (marks_of f is ops entry out)

module _ (f : Function) (params vars entry : ℕ) (ops listed own : List Op) (stops kept : List Stop) (is : IsFunction f)
    (out : AreClosed (program_of f) ops entry) (listed_is : listed ≡ ops)
    (are : AreStops (program_of f) listed stops) (params_is : params ≡ f.params) (vars_is : vars ≡ length f.vars) (own_is : own ≡ ops)
    (kept_is : kept ≡ stops) where
  are_stops : AreStops (program_of f) ops stops
  are_stops = subst (λ (z : List Op). AreStops (program_of f) z stops) listed_is are

  pub built_well : IsFlowGraph (record { params = params; vars = vars; ops = own; entry = entry; stops = kept })
  built_well = rw (params_is, vars_is, own_is, kept_is) (well_formed f is ops entry out stops are_stops)

  pub built_graph : IsGraphOf (program_of f) (record { params = params; vars = vars; ops = own; entry = entry; stops = kept })
  built_graph = rw (params_is, vars_is, own_is, kept_is) (is_graph f is ops entry out stops are_stops)
