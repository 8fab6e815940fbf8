-- What a graph does, a step at a time. A configuration is a node and the values of all variables.
use Rattle.std.specs.Prelude.{◌≡◌, ℕ, zero, suc, Bool, if◌then◌else◌, List, Option, Some, None, ℤ, pos, map, slice_set, slice_index_or}
use Rattle.c_ast.specs.declared.place.Place.{Place}
use Rattle.c_ast.specs.declared.place.Place.TheVariants as place
use Rattle.c_ast.specs.declared.trace.Trace.{Trace}
use Rattle.c_ast.specs.Tree.{Expression}
use Rattle.c_ast.specs.Value.{eval, is_nonzero}
use Rattle.c_ast.specs.Step.{first_variables, spread}
use Rattle.c_ast.specs.Returns.{always}
use Rattle.c_ast.specs.Trace.{with_event, no_event}
use Rattle.c_ast.specs.Segment.{at_mark, at_exit}
use Rattle.flow_graph.specs.Operation.{Operation, Set, Branch, Mark, Return}
use Rattle.flow_graph.specs.FlowGraph.{FlowGraph, operation_at, node_after, variables_at, GoesOnAt}

-- A step goes on at a node, passes a mark, or ends the run with a result.
pub data Turn : Type 0 where
  Goes : ℕ → List ℤ → Turn
  Passes : ℕ → ℕ → List ℤ → Turn
  Ends : ℤ → Turn

-- What an operation does with the values of all variables.
abbrev pub turn : Operation → List ℤ → Turn
turn (Set x e next) env = Goes next (slice_set env x (eval e env))
turn (Branch e first second) env = Goes (if is_nonzero (eval e env) then first else second) env
turn (Mark mark next) env = Passes mark next env
turn (Return e) env = Ends (eval e env)

-- The expression that the operation evaluates, if it evaluates one.
abbrev pub operand : Operation → Option Expression
operand (Set x e next) = Some e
operand (Branch e first second) = Some e
operand (Mark mark next) = None
operand (Return e) = Some e

-- The values of these variables, in their order; the first argument is that of a variable without one. They are
-- integers in a run, and may be anything else, as linear forms are.
abbrev pub values_with : {A : Type 0} → A → List ℕ → List A → List A
values_with absent variables env = map (λ x. slice_index_or env x absent) variables

-- The integers that these variables have in a run.
abbrev pub values_of : List ℕ → List ℤ → List ℤ
values_of variables env = values_with (pos 0) variables env

-- What an observer sees of a run, in the words of the observer of the source's steps: `holds` judges the expression
-- that a step evaluates, `failed` is seen where it does not hold, `pass` is told of a mark, and `done` of the result.
module _ {R : Type 0} (holds : Option Expression → List ℤ → Bool) (failed : Option R)
    (pass : ℕ → ℕ → List ℤ → Option R → Option R) (done : ℤ → R) (graph : FlowGraph) where
  -- What is seen of a turn, where the first argument tells what is seen after it.
  abbrev pub seen_turn : (ℕ → ℕ → List ℤ → Option R) → ℕ → Turn → Option R
  seen_turn others marks (Goes node env) = others marks node env
  seen_turn others marks (Passes mark node env) =
      pass marks mark (values_of (variables_at graph (place.Mark mark)) env) (others (suc marks) node env)
  seen_turn others marks (Ends value) = Some (done value)

  -- The same of a node's operation, where there is one.
  abbrev pub seen_at : (ℕ → ℕ → List ℤ → Option R) → ℕ → Option Operation → List ℤ → Option R
  seen_at others marks None env = None
  seen_at others marks (Some op) env = if holds (operand op) env then seen_turn others marks (turn op env) else failed

  -- What is seen of at most so many steps from a node on.
  abbrev pub seen_from : ℕ → ℕ → ℕ → List ℤ → Option R
  seen_from zero marks node env = None
  seen_from (suc n) marks node env = seen_at (seen_from n) marks (operation_at graph node) env

-- Where the parameters have these values and all other variables are 0, some number of steps has this trace.
pub record IsGraphTrace (graph : FlowGraph) (inputs : List ℤ) (trace : Trace) : Type 0 where
  pub steps : ℕ
  pub ran : seen_from always None with_event no_event graph steps 0 graph.entry
      (spread (first_variables graph.params) graph.vars inputs) ≡ Some trace

-- From the place `l` with the values `e` in scope and 0 elsewhere, the next place that is met is `l'`, with the values
-- `e'`. `e` may have any length: a variable in scope without a value is 0, and values beyond the variables in scope are
-- left out.
pub record IsGraphSegment (graph : FlowGraph) (l : Place) (e : List ℤ) (l' : Place) (e' : List ℤ) : Type 0 where
  pub from : GoesOnAt graph l
  pub steps : ℕ
  pub met : seen_from always None at_mark at_exit graph steps 0 (node_after graph l)
      (spread (variables_at graph l) graph.vars e) ≡ Some (l', e')
