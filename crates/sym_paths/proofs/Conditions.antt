-- The cases of a condition say which inputs meet it, both ways.
use Rattle.std.proofs.Common.{◌≡◌, ◌↔◌, ℕ, ◌+◌, Bool, true, false, List, ◌++◌, length, map, replicate, All, refl, sym, ap, subst, ◌∙◌, append_assoc, length-append, true≢false, arith}
use Rattle.std.specs.Prelude.{ℤ, pos, Result, Ok, Err}
use Rattle.std.proofs.lemmas.List.{length-replicate}
use Rattle.std.proofs.lemmas.List.Elements.{All-nil, All-weaker}
use Rattle.c_ast.specs.Tree.{Expression}
use Rattle.c_ast.specs.Value.{is_nonzero, eval, CanEvaluate}
use Rattle.c_ast.specs.Condition.{Meets}
use Rattle.lin_terms.specs.declared.form.Form.{Form}
use Rattle.lin_terms.specs.declared.row.Row.{Row}
use Rattle.lin_terms.specs.Row.{Holds}
use Rattle.sym_paths.specs.declared.limit.PathLimit.{PathLimit}
use Rattle.sym_paths.specs.Walk.{State, Path, collect}
use Rattle.sym_paths.specs.Symbolic.{condition, symbolic}
use Rattle.sym_paths.specs.Points.{HaveValues, HoldsBefore, Extends, IsPoint, IsWholePoint, EachArrives, SomeOf, ReachedFrom, Splits}
use Rattle.sym_paths.specs.Cases.{room_for, variables_from, start_state, fitted_row}
use Rattle.sym_paths.specs.Condition.{where_true, condition_walk, completed_rows, rows_of_all, HoldAt}
use Rattle.sym_paths.specs.Laws.{LawOfConditions}
use Rattle.sym_paths.proofs.Walks.{gives_splits, onward_splits, onward_each, each_collected, some_collected, both_of, some_of_changed, picked}
use Rattle.sym_paths.proofs.Points.{have_longer, holds_here, variables_have}
use Rattle.sym_paths.proofs.Expressions.{condition_splits, symbolic_means}
use Rattle.sym_paths.proofs.Fitted.{rows_have_length, rows_hold, rows_hold_before}
use Rattle.sym_paths.proofs.Cases.{some_of_map, some_from_map}

module _ (arity : ℕ) (c : Expression) (can : CanEvaluate arity c) (inputs : List ℤ) (exact : length inputs ≡ arity) where
  abbrev forms : List Form
  forms = variables_from (room_for arity) 0 arity

  abbrev Begun : List ℤ → Type 0
  Begun point = HaveValues point (variables_from (room_for arity) 0 arity) inputs

  begun_have : HaveValues inputs forms inputs
  begun_have = variables_have (room_for arity) 0 arity inputs (omega (arith, exact)) (omega (arith, exact))

  begun_point : IsWholePoint inputs (start_state arity)
  begun_point = record { exact = exact; holds = All-nil (HoldsBefore inputs) }

  stable : (point longer : List ℤ) → Extends point longer → Begun point → Begun longer
  stable point longer x have = have_longer point longer forms inputs x have

  tests : Splits (start_state arity) Begun (λ point answer. Begun point × (answer ≡ is_nonzero (eval c inputs)))
      (condition (symbolic (room_for arity) forms c) (start_state arity))
  tests =
      condition_splits (room_for arity) Begun stable (symbolic (room_for arity) forms c) (eval c inputs)
      (symbolic_means (room_for arity) Begun stable forms inputs (λ point have. have) arity c can) (start_state arity)

  abbrev IsMet : List ℤ → Unit {0} → Type 0
  IsMet point done = is_nonzero (eval c inputs) ≡ true

  -- the whole walk, of inputs that meet the condition
  met_walk : is_nonzero (eval c inputs) ≡ true → Splits (start_state arity) Begun IsMet (condition_walk arity c)
  met_walk met =
      onward_splits IsMet where_true (start_state arity) Begun (λ point answer. Begun point × (answer ≡ is_nonzero (eval c inputs)))
      (condition (symbolic (room_for arity) forms c) (start_state arity)) tests (λ answer state. only_true answer state)
    where
      only_true : (answer : Bool) (state : State) → Splits state (λ point. Begun point × (answer ≡ is_nonzero (eval c inputs))) IsMet (where_true answer state)
      only_true true state = gives_splits state (λ point. Begun point × (true ≡ is_nonzero (eval c inputs))) IsMet (tt {0}) (λ point p. met)
      only_true false state = record { sound = tt; complete = λ point at p. absurd (true≢false (sym met ∙ sym p.1)) }

  -- each path, where its rows hold, says that they meet it
  abbrev Says : Path (Unit {0}) → Type 0
  Says path = (point : List ℤ) → IsPoint point path.state → IsPoint point (start_state arity) × (Begun point → is_nonzero (eval c inputs) ≡ true)

  each_says : EachArrives Says (condition_walk arity c)
  each_says =
      onward_each where_true _ Says (condition (symbolic (room_for arity) forms c) (start_state arity))
      (λ path i. only_true path.value path.state i) tests.sound
    where
      only_true : (answer : Bool) (state : State)
          → ((point : List ℤ) → IsPoint point state → IsPoint point (start_state arity) × (Begun point → Begun point × (answer ≡ is_nonzero (eval c inputs))))
          → EachArrives Says (where_true answer state)
      only_true true state i = (λ point at. let r = i point at in (r.0, λ begun. sym (r.1 begun).1), tt)
      only_true false state i = tt

  to_rows : (path : Path (Unit {0})) → ReachedFrom inputs IsMet path → HoldAt inputs (completed_rows path)
  to_rows path reached =
      let columns : path.state.columns ≡ length (inputs ++ reached.extends.behind) =
      sym reached.whole.exact ∙ ap (λ (xs : List ℤ). length xs) reached.extends.is in (
        reached.extends.behind,
        record {
          columns = subst (λ (k : ℕ). All (λ row. length row.coefs ≡ k) (map (fitted_row path.state.columns) path.state.rows)) columns
              (rows_have_length path.state.columns path.state.rows);
          holds = rows_hold (inputs ++ reached.extends.behind) path.state.columns path.state.rows (omega (arith, columns))
              (subst (λ (xs : List ℤ). All (Holds xs) path.state.rows) reached.extends.is
              (All-weaker (HoldsBefore reached.longer) (Holds reached.longer) (λ row. holds_here reached.longer row) path.state.rows reached.whole.holds));
        },
      )

  from_rows : (path : Path (Unit {0})) → Says path → HoldAt inputs (completed_rows path) → is_nonzero (eval c inputs) ≡ true
  from_rows path says (unknowns, hold) =
      let long : length ((inputs ++ unknowns) ++ replicate path.state.columns (pos 0)) ≡ length (inputs ++ unknowns) + path.state.columns =
      length-append (inputs ++ unknowns) (replicate path.state.columns (pos 0))
      ∙ ap (λ (k : ℕ). length (inputs ++ unknowns) + k) (length-replicate path.state.columns (pos 0)) in
      let at : IsPoint ((inputs ++ unknowns) ++ replicate path.state.columns (pos 0)) path.state = record {
        room = omega (arith, long);
        holds = rows_hold_before (inputs ++ unknowns) path.state.columns path.state.rows hold.columns hold.holds;
      } in
      let further : Extends inputs ((inputs ++ unknowns) ++ replicate path.state.columns (pos 0)) =
      record { behind = unknowns ++ replicate path.state.columns (pos 0); is = append_assoc inputs unknowns (replicate path.state.columns (pos 0)) } in
      (says ((inputs ++ unknowns) ++ replicate path.state.columns (pos 0)) at).1
      (stable inputs ((inputs ++ unknowns) ++ replicate path.state.columns (pos 0)) further begun_have)

  both_ways : (paths : List (Path (Unit {0}))) → collect 1024 (condition_walk arity c) ≡ Ok paths
      → Meets c inputs ↔ SomeOf (HoldAt inputs) (map completed_rows paths)
  both_ways paths collected = (
    λ met. some_of_map (HoldAt inputs) completed_rows paths
        (some_of_changed (ReachedFrom inputs IsMet) (λ path. HoldAt inputs (completed_rows path)) paths to_rows
        (some_collected (ReachedFrom inputs IsMet) 1024 (condition_walk arity c) paths collected
        ((met_walk met).complete inputs begun_point begun_have))),
    λ some.
        let found = picked _ paths (both_of _ (λ path. HoldAt inputs (completed_rows path)) paths
        (each_collected Says 1024 (condition_walk arity c) paths collected each_says) (some_from_map (HoldAt inputs) completed_rows paths some)) in
        from_rows found.0 found.1.0 found.1.1,
  )

pub law_of_conditions : LawOfConditions
law_of_conditions arity c can cases made inputs exact = on (collect 1024 (condition_walk arity c)) refl made
  where
    on : (r : Result (List (Path (Unit {0}))) PathLimit) → collect 1024 (condition_walk arity c) ≡ r → rows_of_all r ≡ Ok cases
        → Meets c inputs ↔ SomeOf (HoldAt inputs) cases
    on (Ok paths) collected made =
        let same : map completed_rows paths ≡ cases = cc in
        subst (λ (cs : List (List Row)). Meets c inputs ↔ SomeOf (HoldAt inputs) cs) same (both_ways arity c can inputs exact paths collected)
    on (Err limit) collected made = cc
