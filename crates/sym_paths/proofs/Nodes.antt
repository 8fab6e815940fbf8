-- The walk from a node says what a run does from it.
use Rattle.std.proofs.Common.{◌≡◌, ℕ, zero, suc, ◌<◌, ◌⊎◌, Bool, true, false, cond, List, [], ◌∷◌, length, set, Option, Some, None, refl, sym, ap, subst, ◌∙◌, inl, inr, arith}
use Rattle.std.specs.Prelude.{ℤ, pos, slice_get}
use Rattle.std.specs.Option.{option_map}
use Rattle.std.proofs.lemmas.Option.{slice_get-get_or}
use Rattle.c_ast.specs.declared.place.Place.{Place}
use Rattle.c_ast.specs.declared.place.Place.TheVariants as place
use Rattle.c_ast.specs.Value.{eval, is_nonzero}
use Rattle.c_ast.specs.Returns.{always}
use Rattle.c_ast.specs.Segment.{at_mark, at_exit}
use Rattle.lin_terms.specs.declared.form.Form.{Form}
use Rattle.lin_terms.specs.Form.{constant_form}
use Rattle.flow_graph.specs.declared.op.Op.{Op}
use Rattle.flow_graph.specs.Operation.{Operation, Set, Branch, Mark, Return, operation_of}
use Rattle.flow_graph.specs.FlowGraph.{FlowGraph, operation_at, variables_at}
use Rattle.flow_graph.specs.Run.{Turn, Goes, turn, values_with, values_of, seen_turn, seen_at, seen_from}
use Rattle.flow_graph.specs.WellFormed.{IsMark, Leads, IsFlowGraph}
use Rattle.sym_paths.specs.Walk.{State, gives}
use Rattle.sym_paths.specs.Symbolic.{condition, symbolic}
use Rattle.sym_paths.specs.Nodes.{End, end_at, operation_walk, walk_from}
use Rattle.sym_paths.specs.Points.{HasValue, HaveValues, Splits}
use Rattle.sym_paths.proofs.Walks.{changed, gives_splits, onward_splits}
use Rattle.sym_paths.proofs.Points.{have_longer, have_set, listed_have}
use Rattle.sym_paths.proofs.Expressions.{IsStable, carried, condition_splits, symbolic_means}

-- ---- what a run meets from a node

abbrev pub met : FlowGraph → ℕ → ℕ → List ℤ → Option (Place × List ℤ)
met graph n node env = seen_from always None at_mark at_exit graph n 0 node env

abbrev met_at : FlowGraph → ℕ → Option Operation → List ℤ → Option (Place × List ℤ)
met_at graph n op env = seen_at always None at_mark at_exit graph (seen_from always None at_mark at_exit graph n) 0 op env

-- From the node with these values of all variables a run meets this place next, with these values there.
pub record MeetsFrom (graph : FlowGraph) (node : ℕ) (env : List ℤ) (l : Place) (values : List ℤ) : Type 0 where
  pub steps : ℕ
  pub is : met graph steps node env ≡ Some (l, values)

-- What an end owes: its forms have the values with which a run from the node meets its place.
pub record EndsRight (graph : FlowGraph) (node : ℕ) (env : List ℤ) (point : List ℤ) (end : End) : Type 0 where
  pub values : List ℤ
  pub have : HaveValues point end.forms values
  pub meets : MeetsFrom graph node env end.place values

-- ---- how far a walk has to go

no_operation : (ops : List Op) (node : ℕ) → node < length ops → option_map operation_of (slice_get ops node) ≡ None → ⊥
no_operation [] node within none = absurd (omega arith)
no_operation (op ∷ ops) node within none = nothing (ap (option_map operation_of) (sym (slice_get-get_or (op ∷ ops) node op within)) ∙ none)
  where
    nothing : {x : Operation} → Some x ≡ None → ⊥
    nothing is = subst (λ o. Given o) is tt
      where
        Given : Option Operation → Type 0
        Given None = ⊥
        Given (Some x) = Unit {0}

-- so many nodes are enough from the node: its edges lead down or to marks
abbrev IsEnough : FlowGraph → ℕ → ℕ → Type 0
IsEnough graph n node = (suc node < n) ⊎ ((0 < n) × IsMark (operation_at graph node))

enough_behind : (graph : FlowGraph) (n node next : ℕ) → suc node < suc n → Leads (operation_at graph) (length graph.ops) node next → IsEnough graph n next
enough_behind graph n node next far (within, inl down) = inl (omega (arith, far, down))
enough_behind graph n node next far (within, inr mark) = inr (omega (arith, far), mark)

module _ (room : ℕ) (graph : FlowGraph) (is : IsFlowGraph graph) where
  one_more : (node next : ℕ) (env env' : List ℤ) (op : Operation) → operation_at graph node ≡ Some op → turn op env ≡ Goes next env'
      → (l : Place) (values : List ℤ) → MeetsFrom graph next env' l values → MeetsFrom graph node env l values
  one_more node next env env' op op_is goes l values meets = record {
    steps = suc meets.steps;
    is = ap (λ (o : Option Operation). met_at graph meets.steps o env) op_is
        ∙ ap (λ (t : Turn). seen_turn always None at_mark at_exit graph (seen_from always None at_mark at_exit graph meets.steps) 0 t) goes ∙ meets.is;
  }

  further : (node next : ℕ) (env env' : List ℤ) (op : Operation) → operation_at graph node ≡ Some op → turn op env ≡ Goes next env'
      → (point : List ℤ) (end : End) → EndsRight graph next env' point end → EndsRight graph node env point end
  further node next env env' op op_is goes point end right = record {
    values = right.values;
    have = right.have;
    meets = one_more node next env env' op op_is goes end.place right.values right.meets;
  }

  abbrev Have : List Form → List ℤ → List ℤ → Type 0
  Have forms env point = HaveValues point forms env

  stable : (forms : List Form) (env : List ℤ) → IsStable (λ point. HaveValues point forms env)
  stable forms env point longer x have = have_longer point longer forms env x have

  -- what the walks from the next nodes owe
  abbrev GoesRight : ℕ → Type 0
  GoesRight n = (node : ℕ) → node < length graph.ops → IsEnough graph n node → (forms : List Form) (env : List ℤ) (state : State)
      → Splits state (λ point. HaveValues point forms env) (EndsRight graph node env) (walk_from room graph n node forms state)

  operation_splits : (n node : ℕ) (o : Option Operation) → operation_at graph node ≡ o → node < length graph.ops → IsEnough graph (suc n) node → GoesRight n
      → (forms : List Form) (env : List ℤ) (state : State)
      → Splits state (λ point. HaveValues point forms env) (EndsRight graph node env) (operation_walk room graph (walk_from room graph n) o forms state)
  operation_splits n node None o_is within enough go forms env state = absurd (no_operation graph.ops node within o_is)
  operation_splits n node (Some (Set x e next)) o_is within enough go forms env state =
      let fit = is.fit node (Set x e next) o_is in
      onward_splits (EndsRight graph node env) (λ value. walk_from room graph n next (set forms x value))
      state (λ point. HaveValues point forms env) (λ point f. HaveValues point forms env × HasValue point f (eval e env)) (symbolic room forms e state)
      (carried state (λ point. HaveValues point forms env) (λ point f. HasValue point f (eval e env)) (symbolic room forms e state) (stable forms env)
      (symbolic_means room (λ point. HaveValues point forms env) (stable forms env) forms env (λ point have. have) graph.vars e fit.1 state))
      (λ f after. changed after (λ point. HaveValues point (set forms x f) (set env x (eval e env)))
      (λ point. HaveValues point forms env × HasValue point f (eval e env)) (EndsRight graph next (set env x (eval e env))) (EndsRight graph node env)
      (walk_from room graph n next (set forms x f) after) (λ point have. have_set point forms env x f (eval e env) have.0 have.1)
      (λ end point longer x' have right. further node next env (set env x (eval e env)) (Set x e next) o_is refl longer end right)
      (go next fit.2.0 (by_enough enough fit.2) (set forms x f) (set env x (eval e env)) after))
    where
      by_enough : IsEnough graph (suc n) node → Leads (operation_at graph) (length graph.ops) node next → IsEnough graph n next
      by_enough (inl far) leads = enough_behind graph n node next far leads
      by_enough (inr mark) leads = absurd (subst IsMark o_is mark.1)
  operation_splits n node (Some (Branch e first second)) o_is within enough go forms env state =
      let fit = is.fit node (Branch e first second) o_is in
      onward_splits (EndsRight graph node env) (λ test. walk_from room graph n (cond test first second) forms)
      state (λ point. HaveValues point forms env) (λ point answer. HaveValues point forms env × (answer ≡ is_nonzero (eval e env)))
      (condition (symbolic room forms e) state)
      (condition_splits room (λ point. HaveValues point forms env) (stable forms env) (symbolic room forms e) (eval e env)
      (symbolic_means room (λ point. HaveValues point forms env) (stable forms env) forms env (λ point have. have) graph.vars e fit.0) state)
      (λ test after. changed after (λ point. HaveValues point forms env) (λ point. HaveValues point forms env × (test ≡ is_nonzero (eval e env)))
      (EndsRight graph (cond test first second) env) (EndsRight graph node env) (walk_from room graph n (cond test first second) forms after)
      (λ point have. have.0)
      (λ end point longer x have right. further node (cond test first second) env env (Branch e first second) o_is
      (ap (λ (t : Bool). Goes (cond t first second) env) (sym have.1)) longer end right)
      (taken test fit.1 fit.2 after))
    where
      by_enough : (next : ℕ) → IsEnough graph (suc n) node → Leads (operation_at graph) (length graph.ops) node next → IsEnough graph n next
      by_enough next (inl far) leads = enough_behind graph n node next far leads
      by_enough next (inr mark) leads = absurd (subst IsMark o_is mark.1)

      taken : (test : Bool) → Leads (operation_at graph) (length graph.ops) node first → Leads (operation_at graph) (length graph.ops) node second
          → (after : State) → Splits after (λ point. HaveValues point forms env) (EndsRight graph (cond test first second) env)
          (walk_from room graph n (cond test first second) forms after)
      taken true to_first to_second after = go first to_first.0 (by_enough first enough to_first) forms env after
      taken false to_first to_second after = go second to_second.0 (by_enough second enough to_second) forms env after
  operation_splits n node (Some (Mark mark next)) o_is within enough go forms env state =
      gives_splits state (λ point. HaveValues point forms env) (EndsRight graph node env)
      (end_at (place.Mark mark) (values_with (constant_form room (pos 0)) (variables_at graph (place.Mark mark)) forms)) (λ point have. record {
        values = values_of (variables_at graph (place.Mark mark)) env;
        have = listed_have point room (variables_at graph (place.Mark mark)) forms env have;
        meets = record { steps = 1; is = ap (λ (o : Option Operation). met_at graph 0 o env) o_is };
      })
  operation_splits n node (Some (Return e)) o_is within enough go forms env state =
      let fit = is.fit node (Return e) o_is in
      onward_splits (EndsRight graph node env) (λ value. gives (end_at place.Exit (value ∷ [])))
      state (λ point. HaveValues point forms env) (λ point f. HasValue point f (eval e env)) (symbolic room forms e state)
      (symbolic_means room (λ point. HaveValues point forms env) (stable forms env) forms env (λ point have. have) graph.vars e fit state)
      (λ f after. gives_splits after (λ point. HasValue point f (eval e env)) (EndsRight graph node env) (end_at place.Exit (f ∷ [])) (λ point has. record {
        values = eval e env ∷ [];
        have = (has, tt);
        meets = record { steps = 1; is = ap (λ (o : Option Operation). met_at graph 0 o env) o_is };
      }))

  pub walk_splits : (n : ℕ) → GoesRight n
  walk_splits zero node within (inl far) forms env state = absurd (omega arith)
  walk_splits zero node within (inr mark) forms env state = let none = mark.0 in absurd (omega (arith, none))
  walk_splits (suc n) node within enough forms env state =
      operation_splits n node (operation_at graph node) refl within enough (walk_splits n) forms env state
