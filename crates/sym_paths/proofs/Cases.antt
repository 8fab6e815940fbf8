-- The cases of a segment say what the graph does, both ways.
use Rattle.std.proofs.Common.{◌≡◌, ◌↔◌, ℕ, suc, ◌+◌, ◌<◌, List, [], ◌∷◌, ◌++◌, length, map, replicate, All, Option, Some, None, IsSome, refl, sym, ap, subst, ◌∙◌, append_assoc, length-append, inl, inr, true≢false, arith}
use Rattle.std.specs.Prelude.{ℤ, pos, Result, Ok, Err}
use Rattle.std.proofs.lemmas.List.{length-replicate}
use Rattle.std.proofs.lemmas.List.Elements.{All-nil, All-weaker}
use Rattle.c_ast.specs.declared.place.Place.{Place}
use Rattle.c_ast.specs.declared.place.Place.TheVariants as place
use Rattle.c_ast.specs.Step.{spread}
use Rattle.lin_terms.specs.declared.form.Form.{Form}
use Rattle.lin_terms.specs.Form.{value_at}
use Rattle.lin_terms.specs.Row.{Holds}
use Rattle.flow_graph.specs.declared.stop.Stop.{Stop}
use Rattle.flow_graph.specs.FlowGraph.{FlowGraph, stop_of, next_of, node_after, variables_at, width_at, GoesOnAt}
use Rattle.flow_graph.specs.Run.{IsGraphSegment}
use Rattle.flow_graph.specs.WellFormed.{IsFlowGraph}
use Rattle.flow_graph.proofs.Laws.{graph_segment_is_determined}
use Rattle.sym_paths.specs.declared.limit.PathLimit.{PathLimit}
use Rattle.sym_paths.specs.declared.case.Case.{Case}
use Rattle.sym_paths.specs.Walk.{Path, collect}
use Rattle.sym_paths.specs.Nodes.{End}
use Rattle.sym_paths.specs.Points.{HaveValues, HoldsBefore, Extends, IsPoint, IsWholePoint, SomeOf, ReachedFrom, Splits}
use Rattle.sym_paths.specs.Cases.{room_for, variables_from, start_forms, start_state, segment_walk, fitted_row, fitted_form, completed, all_completed, LeadsTo}
use Rattle.sym_paths.specs.Laws.{LawOfCases}
use Rattle.sym_paths.proofs.Walks.{each_collected, some_collected, both_of, some_of_changed, picked}
use Rattle.sym_paths.proofs.Points.{have_longer, holds_here, spread_have, values_are, variables_have}
use Rattle.sym_paths.proofs.Nodes.{MeetsFrom, EndsRight, walk_splits}
use Rattle.sym_paths.proofs.Fitted.{rows_have_length, forms_have_length, rows_hold, values_fitted, rows_hold_before, values_before}

-- ---- some of the things that are made of others

pub some_of_map : {A B : Type 0} (P : B → Type 0) (f : A → B) (xs : List A) → SomeOf (λ x. P (f x)) xs → SomeOf P (map f xs)
some_of_map P f [] some = some
some_of_map P f (x ∷ xs) (inl here) = inl here
some_of_map P f (x ∷ xs) (inr others) = inr (some_of_map P f xs others)

pub some_from_map : {A B : Type 0} (P : B → Type 0) (f : A → B) (xs : List A) → SomeOf P (map f xs) → SomeOf (λ x. P (f x)) xs
some_from_map P f [] some = some
some_from_map P f (x ∷ xs) (inl here) = inl here
some_from_map P f (x ∷ xs) (inr others) = inr (some_from_map P f xs others)

-- ---- the place from which a segment begins

node_is_below : (graph : FlowGraph) → IsFlowGraph graph → (l : Place) → GoesOnAt graph l → node_after graph l < length graph.ops
node_is_below graph is place.Entry goes = is.entry
node_is_below graph is (place.Mark mark) goes = on (stop_of graph.stops mark) refl goes
  where
    on : (o : Option Stop) → stop_of graph.stops mark ≡ o → IsSome o → next_of o < length graph.ops
    on None found some = absurd (true≢false (sym some))
    on (Some stop) found some = (is.afters mark stop found).0
node_is_below graph is place.Exit goes = absurd goes

pub width_is : (graph : FlowGraph) (l : Place) → GoesOnAt graph l → width_at graph l ≡ length (variables_at graph l)
width_is graph place.Entry goes = refl
width_is graph (place.Mark mark) goes = refl
width_is graph place.Exit goes = absurd goes

-- ---- both ways

module _ (graph : FlowGraph) (is : IsFlowGraph graph) (l : Place) (goes : GoesOnAt graph l) (e : List ℤ)
    (exact : length e ≡ length (variables_at graph l)) where
  abbrev width : ℕ
  width = length (variables_at graph l)

  abbrev begun : List Form
  begun = start_forms (room_for (length (variables_at graph l))) (variables_at graph l) graph.vars

  abbrev env : List ℤ
  env = spread (variables_at graph l) graph.vars e

  abbrev Owed : List ℤ → End → Type 0
  Owed = EndsRight graph (node_after graph l) (spread (variables_at graph l) graph.vars e)

  begun_have : HaveValues e begun env
  begun_have =
      spread_have e (room_for width) (variables_at graph l) 0 graph.vars (variables_from (room_for width) 0 width) e
      (variables_have (room_for width) 0 width e (omega (arith, exact)) (omega (arith, exact)))

  begun_point : IsWholePoint e (start_state width)
  begun_point = record { exact = exact; holds = All-nil (HoldsBefore e) }

  walked : Splits (start_state width) (λ point. HaveValues point begun env) Owed (segment_walk graph l)
  walked =
      let below = node_is_below graph is l goes in
      walk_splits (room_for width) graph is (suc (length graph.ops)) (node_after graph l) below (inl (omega (arith, below))) begun env (start_state width)

  segment_of : (end : End) (values : List ℤ) → MeetsFrom graph (node_after graph l) env end.place values → IsGraphSegment graph l e end.place values
  segment_of end values meets = record { from = goes; steps = meets.steps; met = meets.is }

  to_case : (l' : Place) (e' : List ℤ) → IsGraphSegment graph l e l' e' → (path : Path End) → ReachedFrom e Owed path → LeadsTo e l' e' (completed path)
  to_case l' e' segment path reached =
      let found = segment_of path.value reached.has.values reached.has.meets in
      let same = graph_segment_is_determined graph l e path.value.place l' reached.has.values e' found segment in
      let point_is : reached.longer ≡ e ++ reached.extends.behind = reached.extends.is in
      let columns : path.state.columns ≡ length (e ++ reached.extends.behind) = sym reached.whole.exact ∙ ap (λ (xs : List ℤ). length xs) point_is in (
        reached.extends.behind,
        record {
          columns = (
            subst (λ (k : ℕ). All (λ row. length row.coefs ≡ k) (map (fitted_row path.state.columns) path.state.rows)) columns
                (rows_have_length path.state.columns path.state.rows),
            subst (λ (k : ℕ). All (λ form. length form.coefs ≡ k) (map (fitted_form path.state.columns) path.value.forms)) columns
                (forms_have_length path.state.columns path.value.forms),
          );
          holds = rows_hold (e ++ reached.extends.behind) path.state.columns path.state.rows (omega (arith, columns))
              (subst (λ (xs : List ℤ). All (Holds xs) path.state.rows) point_is
              (All-weaker (HoldsBefore reached.longer) (Holds reached.longer) (λ row. holds_here reached.longer row) path.state.rows reached.whole.holds));
          place = same.0;
          values = values_fitted (e ++ reached.extends.behind) path.state.columns path.value.forms (omega (arith, columns))
              ∙ ap (λ (xs : List ℤ). map (λ (f : Form). value_at f xs) path.value.forms) (sym point_is)
              ∙ values_are reached.longer path.value.forms reached.has.values reached.has.have ∙ same.1;
        },
      )

  from_case : (l' : Place) (e' : List ℤ) (path : Path End)
      → ((point : List ℤ) → IsPoint point path.state → IsPoint point (start_state width) × (HaveValues point begun env → Owed point path.value))
      → LeadsTo e l' e' (completed path) → IsGraphSegment graph l e l' e'
  from_case l' e' path sound (unknowns, leads) =
      let zeros : List ℤ = replicate path.state.columns (pos 0) in
      let point : List ℤ = (e ++ unknowns) ++ replicate path.state.columns (pos 0) in
      let long : length ((e ++ unknowns) ++ replicate path.state.columns (pos 0)) ≡ length (e ++ unknowns) + path.state.columns =
      length-append (e ++ unknowns) zeros ∙ ap (λ (k : ℕ). length (e ++ unknowns) + k) (length-replicate path.state.columns (pos 0)) in
      let at : IsPoint ((e ++ unknowns) ++ replicate path.state.columns (pos 0)) path.state = record {
        room = omega (arith, long);
        holds = rows_hold_before (e ++ unknowns) path.state.columns path.state.rows leads.columns.0 leads.holds;
      } in
      let further : Extends e ((e ++ unknowns) ++ replicate path.state.columns (pos 0)) =
      record { behind = unknowns ++ replicate path.state.columns (pos 0); is = append_assoc e unknowns (replicate path.state.columns (pos 0)) } in
      let owed = (sound point at).1 (have_longer e point begun env further begun_have) in
      let values_same : owed.values ≡ e' =
      sym (values_are point path.value.forms owed.values owed.have)
      ∙ sym (values_before (e ++ unknowns) path.state.columns path.value.forms leads.columns.1) ∙ leads.values in
      subst (λ (p : Place). IsGraphSegment graph l e p e') leads.place
      (subst (λ (vs : List ℤ). IsGraphSegment graph l e path.value.place vs) values_same (segment_of path.value owed.values owed.meets))

  both_ways : (paths : List (Path End)) → collect 1024 (segment_walk graph l) ≡ Ok paths → (l' : Place) (e' : List ℤ)
      → IsGraphSegment graph l e l' e' ↔ SomeOf (LeadsTo e l' e') (map completed paths)
  both_ways paths collected l' e' = (
    λ segment. some_of_map (LeadsTo e l' e') completed paths
        (some_of_changed (ReachedFrom e Owed) (λ path. LeadsTo e l' e' (completed path)) paths (to_case l' e' segment)
        (some_collected (ReachedFrom e Owed) 1024 (segment_walk graph l) paths collected (walked.complete e begun_point begun_have))),
    λ some.
        let found = picked _ paths (both_of _ (λ path. LeadsTo e l' e' (completed path)) paths
        (each_collected _ 1024 (segment_walk graph l) paths collected walked.sound) (some_from_map (LeadsTo e l' e') completed paths some)) in
        from_case l' e' found.0 found.1.0 found.1.1,
  )

pub law_of_cases : LawOfCases
law_of_cases graph is l goes cases made e l' e' exact = on (collect 1024 (segment_walk graph l)) refl made
  where
    width_exact : length e ≡ length (variables_at graph l)
    width_exact = exact ∙ width_is graph l goes

    on : (r : Result (List (Path End)) PathLimit) → collect 1024 (segment_walk graph l) ≡ r → all_completed r ≡ Ok cases
        → IsGraphSegment graph l e l' e' ↔ SomeOf (LeadsTo e l' e') cases
    on (Ok paths) collected made =
        let same : map completed paths ≡ cases = cc in
        subst (λ (cs : List Case). IsGraphSegment graph l e l' e'
        ↔ SomeOf (LeadsTo e l' e') cs) same (both_ways graph is l goes e width_exact paths collected l' e')
    on (Err limit) collected made = cc
