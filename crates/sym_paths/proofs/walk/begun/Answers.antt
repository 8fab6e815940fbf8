use Rattle.std.proofs.Common.{◌≡◌, ◌++◌, ◌∙◌, ◌+◌, ℕ, suc, List, length, map, reverse, ap, refl, arith}
use Rattle.lin_terms.specs.declared.form.Form.{Form}
use Rattle.flow_graph.specs.FlowGraph.{FlowGraph, variables_at, node_after}
use Rattle.sym_paths.specs.declared.search.Waiting.{Waiting}
use Rattle.sym_paths.specs.Arrivals.{fresh}
use Rattle.sym_paths.specs.Cases.{room_for, start_forms}
use Rattle.sym_paths.specs.Machine.{entered}
use Rattle.sym_paths.specs.Waiting.{waiting}
use Rattle.sym_paths.proofs.Beginning.{begins_can, begins_same}
use Rattle.sym_paths.proofs.Cases.{width_is}
use Rattle.sym_paths.proofs.walk.begun.Goals as goal

same_entered : (room : ℕ) (graph : FlowGraph) (left left' node node' : ℕ) (forms forms' : List Form) (n n' : ℕ) → left ≡ left' → node ≡ node' → forms ≡ forms'
    → n ≡ n'
    → entered room graph left node forms (fresh n) ≡ entered room graph left' node' forms' (fresh n')
same_entered room graph left left' node node' forms forms' n n' p q r s = rw (p, q, r, s) refl

pub returns-clause-can : goal.returns-clause-can
returns-clause-can c =
    begins_can c.args.room c.args.graph.now c.in_ok-moves.moves.items (reverse c.wait.new.work.items)
    (c.in_ok-wait.ensures ∙ ap (λ (w : List Waiting). map (waiting 0) c.in_ok-moves.moves.items ++ reverse w) c.new-work.ensures.items)
    c.in_ok-moves.ensures.sound

pub returns-clause-same : goal.returns-clause-same
returns-clause-same c =
    begins_same c.args.room c.args.graph.now c.in_ok-moves.moves.items (reverse c.wait.new.work.items)
    (c.in_ok-wait.ensures ∙ ap (λ (w : List Waiting). map (waiting 0) c.in_ok-moves.moves.items ++ reverse w) c.new-work.ensures.items)
    c.args.place (c.requires.room ∙ ap (λ (vs : List ℕ). room_for (length vs)) c.requires.variables)
    (c.in_ok-moves.ensures.moves
    ∙ same_entered c.args.room c.args.graph.now (c.len.result + 1) (suc (length c.args.graph.now.ops)) c.after-node.result
    (node_after c.args.graph.now c.args.place) c.in_ok-forms.forms.items
    (start_forms c.args.room (variables_at c.args.graph.now c.args.place) c.args.graph.now.vars) c.width_at-columns.result
    (length (variables_at c.args.graph.now c.args.place)) (omega (arith, c.len.ensures)) c.after-node.ensures.node
    (c.in_ok-forms.ensures.forms ∙ ap (λ (vs : List ℕ). start_forms c.args.room vs c.vars.result) c.requires.variables
    ∙ ap (λ (n : ℕ). start_forms c.args.room (variables_at c.args.graph.now c.args.place) n) c.vars.ensures)
    (c.width_at-columns.ensures ∙ width_is c.args.graph.now c.args.place c.requires.place))
