-- The walk over a graph, from a node to the next mark or return.
use Rattle.std.specs.Prelude.{ℕ, zero, suc, pos, if◌then◌else◌, List, [], ◌∷◌, slice_set, Option, Some, None}
use Rattle.c_ast.specs.declared.place.Place.{Place}
use Rattle.c_ast.specs.declared.place.Place.TheVariants as place
use Rattle.lin_terms.specs.declared.form.Form.{Form}
use Rattle.lin_terms.specs.Form.{constant_form}
use Rattle.flow_graph.specs.Operation.{Operation, Set, Branch, Mark, Return}
use Rattle.flow_graph.specs.FlowGraph.{FlowGraph, operation_at, variables_at}
use Rattle.flow_graph.specs.Run.{values_with}
use Rattle.sym_paths.specs.Walk.{State, Walk, gives, onward}
use Rattle.sym_paths.specs.Symbolic.{condition, symbolic}

-- Where a segment ends, and the forms of the values there.
pub record End : Type 0 where
  pub place : Place
  pub forms : List Form

-- The end of these parts.
abbrev pub end_at : Place → List Form → End
end_at place forms = record { place = place; forms = forms }

module _ (room : ℕ) (graph : FlowGraph) where
  -- What a node's operation does, and where the walk goes on from it.
  abbrev pub operation_walk : (ℕ → List Form → State → Walk End) → Option Operation → List Form → State → Walk End
  operation_walk others None forms state = []
  operation_walk others (Some (Set x e next)) forms state =
      onward (symbolic room forms e state) (λ value. others next (slice_set forms x value))
  operation_walk others (Some (Branch e first second)) forms state =
      onward (condition (symbolic room forms e) state) (λ test. others (if test then first else second) forms)
  operation_walk others (Some (Mark mark next)) forms state =
      gives (end_at (place.Mark mark)
      (values_with (constant_form room (pos 0)) (variables_at graph (place.Mark mark)) forms)) state
  operation_walk others (Some (Return e)) forms state =
      onward (symbolic room forms e state) (λ value. gives (end_at place.Exit (value ∷ [])))

  -- The walk from a node over at most so many nodes.
  abbrev pub walk_from : ℕ → ℕ → List Form → State → Walk End
  walk_from zero node forms state = []
  walk_from (suc n) node forms state = operation_walk (walk_from n) (operation_at graph node) forms state
