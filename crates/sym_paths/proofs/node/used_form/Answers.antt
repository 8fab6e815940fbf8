use Rattle.std.proofs.Common.{ap, ◌∙◌, List, Bool, if◌then◌else◌}
use Rattle.lin_terms.specs.declared.form.Form.{Form}
use Rattle.sym_paths.specs.Walk.{Walk, onward}
use Rattle.sym_paths.specs.Symbolic.{tested}
use Rattle.sym_paths.specs.Machine.{Ends, entered, only_where, holding}
use Rattle.sym_paths.specs.Arrivals.{graph_of, fresh}
use Rattle.sym_paths.proofs.node.used_form.Goals as goal

pub returns-in-ToBranch-clause-moves : goal.returns-in-ToBranch-clause-moves
returns-in-ToBranch-clause-moves c =
    rw c.in-ToBranch.is (c.in_ok-moves-in-ToBranch.ensures.moves
    ∙ ap (λ (w : Walk Bool). onward w (λ test. entered c.args.room (graph_of c.args.subject) c.args.pending.left
    (if test then c.in-ToBranch.first else c.in-ToBranch.second) c.as_slice-forms.result.now)) (c.in_ok-answers-in-ToBranch.ensures c.args.columns)
    ∙ ap (λ (forms : List Form). onward (tested c.args.form (fresh c.args.columns)) (λ test. entered c.args.room (graph_of c.args.subject) c.args.pending.left
    (if test then c.in-ToBranch.first else c.in-ToBranch.second) forms)) c.as_slice-forms.ensures.value)

pub returns-clause-moves : goal.returns-clause-moves
returns-clause-moves c =
    rw c.in-ToHold.is (c.in_ok-moves-in-ToHold.ensures.moves
    ∙ ap (λ (w : Walk Bool). onward w (only_where (Ends holding))) (c.in_ok-answers-in-ToHold.ensures c.args.columns))

pub returns-clause-sound : goal.returns-clause-sound
returns-clause-sound c = c.in_ok-moves-in-ToHold.ensures.sound c.args.room (graph_of c.args.subject)
