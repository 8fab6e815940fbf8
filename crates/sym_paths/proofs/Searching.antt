-- The search over a list of cases under way is the walk.
use Rattle.std.proofs.Common.{◌≡◌, ℕ, zero, suc, Bool, true, false, cond, List, [], ◌∷◌, ◌++◌, set, Option, Some, None, refl, sym, ◌∙◌, ap}
use Rattle.std.specs.Prelude.{pos}
use Rattle.c_ast.specs.declared.place.Place.TheVariants as place
use Rattle.c_ast.specs.Tree.{Expression}
use Rattle.lin_terms.specs.declared.form.Form.{Form}
use Rattle.lin_terms.specs.Form.{constant_form}
use Rattle.flow_graph.specs.Operation.{Operation, Set, Branch, Mark, Return}
use Rattle.flow_graph.specs.FlowGraph.{FlowGraph, operation_at, variables_at}
use Rattle.flow_graph.specs.Run.{values_with}
use Rattle.sym_paths.specs.Walk.{State, Arrives, Walk, gives, onward, more, collect}
use Rattle.sym_paths.specs.Symbolic.{tested, symbolic}
use Rattle.sym_paths.specs.Nodes.{End, end_at, operation_walk, walk_from}
use Rattle.sym_paths.specs.Machine.{Task, Value, Todo, does, does_all, step, Goal, ToSet, ToBranch, ToReturn, ToHold, only_where, holding, Pending, Move, Goes, Ends, reached, resumed, resume, evaluating, entered_by, entered, used, with_todo, advanced_by, advanced}
use Rattle.sym_paths.proofs.Onward.{onward_append, onward_one, onward_same, onward_gives, onward_assoc}
use Rattle.sym_paths.proofs.Stepping.{does_todo, stepped}

module _ (room : ℕ) (graph : FlowGraph) where
  -- an expression alone, then what it is for
  pub evaluated : (e : Expression) (goal : Goal) (forms : List Form) (left : ℕ) (state : State)
      → resume room graph (evaluating room graph e goal forms left) state
      ≡ onward (symbolic room forms e state) (λ f next. reached room graph left goal forms (f ∷ []) next)
  evaluated e goal forms left state =
      ap (λ (w : Walk (List Form)). onward w (reached room graph left goal forms)) (onward_gives (does room forms (Value e) [] state))
      ∙ onward_assoc (symbolic room forms e state) (λ f next. gives (f ∷ []) next) (reached room graph left goal forms)
      ∙ onward_same (symbolic room forms e state) (λ f next. onward (gives (f ∷ []) next) (reached room graph left goal forms))
      (λ f next. reached room graph left goal forms (f ∷ []) next) (λ f next. onward_one (f ∷ []) next (reached room graph left goal forms))

  by_operation : (left : ℕ) (o : Option Operation) (forms : List Form) (state : State)
      → operation_walk room graph (walk_from room graph left) o forms state ≡ onward (entered_by room graph left o forms state) (resume room graph)
  by_operation left None forms state = refl
  by_operation left (Some (Set x e next)) forms state =
      sym (onward_one (evaluating room graph e (ToSet x next) forms left) state (resume room graph) ∙ evaluated e (ToSet x next) forms left state)
  by_operation left (Some (Branch e first second)) forms state =
      onward_assoc (symbolic room forms e state) tested (λ test. walk_from room graph left (cond test first second) forms)
      ∙ sym (onward_one (evaluating room graph e (ToBranch first second) forms left) state (resume room graph)
      ∙ evaluated e (ToBranch first second) forms left state)
  by_operation left (Some (Mark mark next)) forms state =
      sym (onward_one (Ends (end_at (place.Mark mark)
      (values_with (constant_form room (pos 0)) (variables_at graph (place.Mark mark)) forms))) state (resume room graph))
  by_operation left (Some (Return e)) forms state =
      sym (onward_one (evaluating room graph e ToReturn forms left) state (resume room graph) ∙ evaluated e ToReturn forms left state)

  -- the walk from a node is what is resumed once it is entered
  pub from_node : (left node : ℕ) (forms : List Form) (state : State)
      → walk_from room graph left node forms state ≡ onward (entered room graph left node forms state) (resume room graph)
  from_node zero node forms state = refl
  from_node (suc left) node forms state = by_operation left (operation_at graph node) forms state

  goal_step : (left : ℕ) (goal : Goal) (forms stack : List Form) (state : State)
      → reached room graph left goal forms stack state ≡ onward (used room graph left goal forms stack state) (resume room graph)
  goal_step left goal forms [] state = refl
  goal_step left (ToSet x next) forms (f ∷ stack) state = from_node left next (set forms x f) state
  goal_step left (ToBranch first second) forms (f ∷ stack) state =
      onward_same (tested f state) (λ test. walk_from room graph left (cond test first second) forms)
      (λ test next. onward (entered room graph left (cond test first second) forms next) (resume room graph))
      (λ test next. from_node left (cond test first second) forms next)
      ∙ sym (onward_assoc (tested f state) (λ test. entered room graph left (cond test first second) forms) (resume room graph))
  goal_step left ToReturn forms (f ∷ stack) state = sym (onward_one (Ends (end_at place.Exit (f ∷ []))) state (resume room graph))
  goal_step left ToHold forms (f ∷ stack) state =
      onward_same (tested f state) (only_where holding) (λ test next. onward (only_where (Ends holding) test next) (resume room graph)) pick
      ∙ sym (onward_assoc (tested f state) (only_where (Ends holding)) (resume room graph))
    where
      pick : (test : Bool) (next : State) → only_where holding test next ≡ onward (only_where (Ends holding) test next) (resume room graph)
      pick true next = sym (onward_one (Ends holding) next (resume room graph))
      pick false next = refl

  all_append : (forms : List Form) (tasks others : List Task) (stack : List Form) (state : State)
      → does_all room forms (tasks ++ others) stack state ≡ onward (does_all room forms tasks stack state) (does_all room forms others)
  all_append forms [] others stack state = sym (onward_one stack state (does_all room forms others))
  all_append forms (task ∷ tasks) others stack state =
      onward_same (does room forms task stack state) (does_all room forms (tasks ++ others))
      (λ after next. onward (does_all room forms tasks after next) (does_all room forms others)) (λ after next. all_append forms tasks others after next)
      ∙ sym (onward_assoc (does room forms task stack state) (does_all room forms tasks) (does_all room forms others))

  task_step : (p : Pending) (tasks : List Task) (state : State)
      → onward (does_all room p.forms tasks p.stack state) (reached room graph p.left p.goal p.forms)
      ≡ onward (advanced_by room graph p tasks state) (resume room graph)
  task_step p [] state = onward_one p.stack state (reached room graph p.left p.goal p.forms) ∙ goal_step p.left p.goal p.forms p.stack state
  task_step p (task ∷ tasks) state =
      ap (λ (w : Walk (List Form)). onward (onward w (does_all room p.forms tasks)) go) (stepped room p.forms task p.stack state)
      ∙ onward_assoc (onward (step room p.forms task p.stack state) (does_todo room p.forms)) (does_all room p.forms tasks) go
      ∙ onward_assoc (step room p.forms task p.stack state) (does_todo room p.forms) (λ after next. onward (does_all room p.forms tasks after next) go)
      ∙ onward_same (step room p.forms task p.stack state)
      (λ t next. onward (does_todo room p.forms t next) (λ after last. onward (does_all room p.forms tasks after last) go))
      (λ t next. onward (gives (Goes (with_todo room graph p tasks t)) next) (resume room graph)) inner
      ∙ sym (onward_assoc (step room p.forms task p.stack state) (λ t next. gives (Goes (with_todo room graph p tasks t)) next) (resume room graph))
    where
      go : List Form → State → Walk End
      go = reached room graph p.left p.goal p.forms

      inner : (t : Todo) (next : State) → onward (does_todo room p.forms t next) (λ after last. onward (does_all room p.forms tasks after last) go)
          ≡ onward (gives (Goes (with_todo room graph p tasks t)) next) (resume room graph)
      inner t next =
          sym (onward_one (Goes (with_todo room graph p tasks t)) next (resume room graph)
          ∙ ap (λ (w : Walk (List Form)). onward w go) (all_append p.forms t.tasks tasks t.stack next)
          ∙ onward_assoc (does_todo room p.forms t next) (does_all room p.forms tasks) go)

  pub one_step : (p : Pending) (state : State) → resumed room graph p state ≡ onward (advanced room graph p state) (resume room graph)
  one_step p state = task_step p p.tasks state

  -- ---- the loop: the first of the work is taken, and what comes of it is put in front of the others

  pub next_step : (n : ℕ) (p : Pending) (state : State) (work : Walk Move)
      → collect n (onward (Arrives (record { state = state; value = Goes p }) ∷ work) (resume room graph))
      ≡ collect n (onward (advanced room graph p state ++ work) (resume room graph))
  next_step n p state work =
      ap (λ (w : Walk End). collect n (w ++ onward work (resume room graph))) (one_step p state)
      ∙ ap (λ (w : Walk End). collect n w) (sym (onward_append (advanced room graph p state) work (resume room graph)))

  pub end_step : (n : ℕ) (end : End) (state : State) (work : Walk Move)
      → collect (suc n) (onward (Arrives (record { state = state; value = Ends end }) ∷ work) (resume room graph))
      ≡ more (record { state = state; value = end }) (collect n (onward work (resume room graph)))
  end_step n end state work = refl
