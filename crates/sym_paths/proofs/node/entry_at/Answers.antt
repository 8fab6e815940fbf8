use Rattle.std.proofs.Common.{◌≡◌, ◌-◌, suc, arith, ap, ◌∙◌, ◌++◌, ◌∷◌, [], List, map, sym}
use Rattle.sym_paths.specs.declared.task.Entry.{Entry}
use Rattle.sym_paths.specs.declared.task.Subject.{Subject}
use Rattle.sym_paths.specs.declared.task.Entry.TheVariants as entry
use Rattle.sym_paths.specs.Arrivals.{graph_of, entry_of}
use Rattle.sym_paths.specs.Machine.{entered}
use Rattle.sym_paths.proofs.Advancing.{entered_again}
use Rattle.sym_paths.proofs.node.entry_at.Goals as goal

pub returns-in_ok-push-in-Graph-clause-moves : goal.returns-in_ok-push-in-Graph-clause-moves
returns-in_ok-push-in-Graph-clause-moves c =
    let more : c.args.left ≡ suc (c.args.left - 1) = omega (arith, c.if-left-eq0.false) in
    ap (λ (moves : List Entry). map entry_of moves) (c.in_ok-push-in-Graph.ensures.items
    ∙ ap (λ (moves : List Entry). moves ++ entry.Arrives c.args.rows c.args.columns c.in_ok-step-in-Graph.step ∷ []) c.new-moves.ensures.items)
    ∙ c.in_ok-step-in-Graph.ensures.step (record { rows = c.args.rows; columns = c.args.columns })
    ∙ entered_again c.args.room c.in-Graph.graph.now c.args.left (c.args.left - 1) c.args.node c.args.forms.items
    (record { rows = c.args.rows; columns = c.args.columns }) more
    ∙ ap (λ (subject : Subject). entered c.args.room (graph_of subject) c.args.left c.args.node c.args.forms.items
    (record { rows = c.args.rows; columns = c.args.columns })) (sym c.in-Graph.is)
