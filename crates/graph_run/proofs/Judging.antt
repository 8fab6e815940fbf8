-- What a run is judged to be is determined.
use Rattle.std.proofs.Common.{◌≡◌, ℕ, zero, suc, Bool, true, false, cond, nat_lt, List, Option, Some, None, ℤ, refl, sym, ap, ◌∙◌}
use Rattle.c_ast.specs.declared.trace.Outcome.{Outcome}
use Rattle.c_ast.specs.declared.trace.Outcome.TheVariants as outcome
use Rattle.c_ast.specs.declared.place.Place.TheVariants as place
use Rattle.c_ast.specs.Step.{first_variables, spread}
use Rattle.c_ast.specs.declared.trace.Event.{Event}
use Rattle.c_ast.specs.FitsRun.{evaluates_fitting}
use Rattle.c_ast.specs.Outcome.{with_first, returned}
use Rattle.c_ast.specs.Judged.{at_most}
use Rattle.flow_graph.specs.Operation.{Operation}
use Rattle.flow_graph.specs.FlowGraph.{FlowGraph, operation_at, variables_at}
use Rattle.flow_graph.specs.Run as graph
use Rattle.flow_graph.specs.Run.{Turn, turn, operand, values_of, seen_turn, seen_at, seen_from}
use Rattle.graph_run.specs.Laws.{GraphIsJudgedOnce}

-- Both are the same where both are seen.
record Agree (a b : Option Outcome) : Type 0 where
  by : (o p : Outcome) → a ≡ Some o → b ≡ Some p → o ≡ p

with_first-agrees : (event : Event) (a b : Option Outcome) → Agree a b → Agree (with_first event a) (with_first event b)
with_first-agrees event None b same = record { by = λ o p h k. cc }
with_first-agrees event (Some u) None same = record { by = λ o p h k. cc }
with_first-agrees event (Some u) (Some v) same = record {
  by = λ o p h k. let both : Some o ≡ Some p = sym h ∙ ap (λ w. with_first event (Some w)) (same.by u v refl refl) ∙ k in cc;
}

at_most-agrees : (limit marks mark : ℕ) (values : List ℤ) (a b : Option Outcome) → Agree a b
    → Agree (at_most limit marks mark values a) (at_most limit marks mark values b)
at_most-agrees limit marks mark values a b same = on (nat_lt marks limit) (record { mark = mark; values = values })
  where
    on : (under : Bool) (event : Event)
        → Agree (cond under (with_first event a) (Some outcome.CutOff)) (cond under (with_first event b) (Some outcome.CutOff))
    on true event = with_first-agrees event a b same
    on false event = record { by = λ o p h k. cc }

module _ (g : FlowGraph) (limit : ℕ) where
  abbrev seen : ℕ → ℕ → ℕ → List ℤ → Option Outcome
  seen = seen_from evaluates_fitting (Some outcome.Wide) (at_most limit) returned g

  abbrev seen_after : ℕ → ℕ → Turn → Option Outcome
  seen_after n marks is = seen_turn evaluates_fitting (Some outcome.Wide) (at_most limit) returned g (seen n) marks is

  abbrev seen_of : ℕ → ℕ → Option Operation → List ℤ → Option Outcome
  seen_of n marks op env = seen_at evaluates_fitting (Some outcome.Wide) (at_most limit) returned g (seen n) marks op env

  abbrev Same : ℕ → ℕ → Type 0
  Same n k = (marks node : ℕ) (env : List ℤ) → Agree (seen n marks node env) (seen k marks node env)

  same_turn : (n k marks : ℕ) (is : Turn) → Same n k → Agree (seen_after n marks is) (seen_after k marks is)
  same_turn n k marks (graph.Goes node env) more = more marks node env
  same_turn n k marks (graph.Passes mark node env) more =
      at_most-agrees limit marks mark (values_of (variables_at g (place.Mark mark)) env) _ _ (more (suc marks) node env)
  same_turn n k marks (graph.Ends value) more = record { by = λ o p h l. cc }

  same_at : (n k marks : ℕ) (op : Option Operation) (env : List ℤ) → Same n k → Agree (seen_of n marks op env) (seen_of k marks op env)
  same_at n k marks None env more = record { by = λ o p h l. cc }
  same_at n k marks (Some op) env more = on (evaluates_fitting (operand op) env)
    where
      on : (fits : Bool)
          → Agree (cond fits (seen_after n marks (turn op env)) (Some outcome.Wide)) (cond fits (seen_after k marks (turn op env)) (Some outcome.Wide))
      on true = same_turn n k marks (turn op env) more
      on false = record { by = λ o p h l. cc }

  same : (n k : ℕ) → Same n k
  same zero k marks node env = record { by = λ o p h l. cc }
  same (suc n) zero marks node env = record { by = λ o p h l. cc }
  same (suc n) (suc k) marks node env = same_at n k marks (operation_at g node) env (same n k)

pub one_outcome : GraphIsJudgedOnce
one_outcome g inputs limit o p h l =
    (same g limit h.steps l.steps 0 g.entry (spread (first_variables g.params) g.vars inputs)).by o p h.is l.is
