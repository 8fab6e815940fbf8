-- The search for the cases of a condition begins with its walk.
use Rattle.std.proofs.Common.{◌≡◌, ℕ, zero, suc, ◌-◌, Bool, true, false, List, [], ◌∷◌, ◌++◌, length, map, refl, sym, ap, ◌∙◌, append-nil}
use Rattle.std.specs.Prelude.{Result, Ok, Err}
use Rattle.c_ast.specs.Tree.{Expression}
use Rattle.lin_terms.specs.declared.form.Form.{Form}
use Rattle.lin_terms.specs.declared.row.Row.{Row}
use Rattle.flow_graph.specs.FlowGraph.{FlowGraph}
use Rattle.sym_paths.specs.declared.limit.PathLimit.{PathLimit}
use Rattle.sym_paths.specs.declared.limit.PathLimit.TheVariants as limit
use Rattle.sym_paths.specs.declared.case.Case.{Case}
use Rattle.sym_paths.specs.declared.search.Waiting.{Waiting}
use Rattle.sym_paths.specs.declared.task.Entry.{Entry}
use Rattle.sym_paths.specs.Walk.{State, Path, Arrives, Stops, Walk, gives, onward, more, collect, walk_behind}
use Rattle.sym_paths.specs.Symbolic.{tested, condition, symbolic}
use Rattle.sym_paths.specs.Nodes.{End}
use Rattle.sym_paths.specs.Machine.{ToHold, Move, only_where, holding, resume, evaluating}
use Rattle.sym_paths.specs.Cases.{room_for, variables_from, start_state, all_completed}
use Rattle.sym_paths.specs.Condition.{where_true, completed_rows, rows_of_all, rows_alone, condition_cases}
use Rattle.sym_paths.specs.Arrivals.{fresh, entry_of}
use Rattle.sym_paths.specs.Waiting.{waiting, walk_of, IsLimit, searched_from}
use Rattle.sym_paths.proofs.Onward.{onward_one, onward_assoc}
use Rattle.sym_paths.proofs.Searching.{evaluated}
use Rattle.sym_paths.proofs.Waiting.{walk_waited}
use Rattle.sym_paths.proofs.Beginning.{none_in_front, behind_none}

-- ---- the rows of the complete cases

-- these rows, and then those of the others
with_rows : List Row → Result (List (List Row)) PathLimit → Result (List (List Row)) PathLimit
with_rows rows (Ok others) = Ok (rows ∷ others)
with_rows rows (Err why) = Err why

more_cases : (state : State) (r : Result (List (Path End)) PathLimit)
    → rows_alone (all_completed (more (record { state = state; value = holding }) r))
    ≡ with_rows (completed_rows (record { state = state; value = tt {0} })) (rows_alone (all_completed r))
unfolding with_rows
more_cases state (Ok paths) = refl
more_cases state (Err why) = refl

more_rows : (state : State) (r : Result (List (Path (Unit {0}))) PathLimit)
    → rows_of_all (more (record { state = state; value = tt {0} }) r)
    ≡ with_rows (completed_rows (record { state = state; value = tt {0} })) (rows_of_all r)
unfolding with_rows
more_rows state (Ok paths) = refl
more_rows state (Err why) = refl

collected : (walk : Walk Bool) (n : ℕ)
    → rows_alone (all_completed (collect n (onward walk (only_where holding)))) ≡ rows_of_all (collect n (onward walk where_true))
collected [] zero = refl
collected [] (suc n) = refl
collected (Stops why ∷ walk) zero = refl
collected (Stops why ∷ walk) (suc n) = refl
collected (Arrives path ∷ walk) n = by path.value n (collected walk)
  where
    by : (test : Bool) (n : ℕ)
        → ((k : ℕ) → rows_alone (all_completed (collect k (onward walk (only_where holding)))) ≡ rows_of_all (collect k (onward walk where_true)))
        → rows_alone (all_completed (collect n (only_where holding test path.state ++ onward walk (only_where holding))))
        ≡ rows_of_all (collect n (where_true test path.state ++ onward walk where_true))
    by true zero same = refl
    by true (suc n) same =
        more_cases path.state (collect n (onward walk (only_where holding)))
        ∙ ap (with_rows (completed_rows (record { state = path.state; value = tt {0} }))) (same n)
        ∙ sym (more_rows path.state (collect n (onward walk where_true)))
    by false n same = same n

-- ---- what the search begins with

module _ (room : ℕ) (graph : FlowGraph) (arity : ℕ) (e : Expression) where
  abbrev forms : List Form
  forms = variables_from room 0 arity

  abbrev first : Walk Move
  first = gives (evaluating room graph e ToHold forms 0) (fresh arity)

  -- the expression alone, and then its test
  walk_is : onward first (resume room graph) ≡ onward (condition (symbolic room forms e) (start_state arity)) (only_where holding)
  walk_is =
      onward_one (evaluating room graph e ToHold forms 0) (fresh arity) (resume room graph)
      ∙ evaluated room graph e ToHold forms 0 (fresh arity)
      ∙ sym (onward_assoc (symbolic room forms e (start_state arity)) tested (only_where holding))

  pub holding_same : (moves : List Entry) (work : List Waiting) → work ≡ map (waiting 0) moves ++ [] → room ≡ room_for arity
      → map entry_of moves ≡ gives (evaluating room graph e ToHold (variables_from room 0 arity) 0) (fresh arity)
      → rows_alone (searched_from room graph [] work []) ≡ condition_cases arity e
  holding_same moves work waits room_is are =
      let walked : walk_of [] work ≡ first =
      ap (walk_of []) waits ∙ walk_waited [] moves [] ∙ append-nil (walk_behind [] (map entry_of moves)) ∙ none_in_front (map entry_of moves) ∙ are in
      ap rows_alone (behind_none (all_completed (collect (1024 - length {A = Case} []) (onward (walk_of [] work) (resume room graph))))
      ∙ ap (λ (w : Walk Move). all_completed (collect 1024 (onward w (resume room graph)))) walked
      ∙ ap (λ (w : Walk End). all_completed (collect 1024 w)) walk_is)
      ∙ collected (condition (symbolic room forms e) (start_state arity)) 1024
      ∙ ap (λ (n : ℕ). rows_of_all (collect 1024 (onward (condition (symbolic n (variables_from n 0 arity) e) (start_state arity)) where_true))) room_is

-- the limit of the search is that of the cases
pub limit_of_rows : (r : Result (List Case) PathLimit) (wanted : Result (List (List Row)) PathLimit) (why : PathLimit) → rows_alone r ≡ wanted
    → IsLimit r why → IsLimit wanted why
limit_of_rows r wanted limit.NonLinear same is = sym same ∙ ap rows_alone is
limit_of_rows r wanted limit.WideForm same is = sym same ∙ ap rows_alone is
limit_of_rows r wanted limit.ManyUnknowns same is = sym same ∙ ap rows_alone is
limit_of_rows r wanted limit.ManyPaths same is = sym same ∙ ap rows_alone is
limit_of_rows r wanted limit.Memory same is = tt
