use Rattle.std.proofs.Common.{◌++◌, ◌∙◌, [], List, map, reverse, ap}
use Rattle.c_ast.specs.View.{expression_of}
use Rattle.lin_terms.specs.declared.form.Form.{Form}
use Rattle.sym_paths.specs.declared.search.Waiting.{Waiting}
use Rattle.sym_paths.specs.declared.task.Entry.{Entry}
use Rattle.sym_paths.specs.declared.task.Entry.TheVariants as entry
use Rattle.sym_paths.specs.declared.task.Subject.TheVariants as subject
use Rattle.sym_paths.specs.Walk.{gives}
use Rattle.sym_paths.specs.Machine.{ToHold, Move, evaluating}
use Rattle.sym_paths.specs.Arrivals.{fresh, entry_of, graph_of}
use Rattle.sym_paths.specs.Waiting.{waiting}
use Rattle.sym_paths.proofs.Advancing.{one_is_sound, sound_anywhere}
use Rattle.sym_paths.proofs.Beginning.{begins_can}
use Rattle.sym_paths.proofs.Holding.{holding_same}
use Rattle.sym_paths.proofs.condition.begun.Goals as goal

pub returns-clause-can : goal.returns-clause-can
returns-clause-can c =
    let graph = graph_of (subject.Condition c.args.arity) in
    begins_can c.args.room graph c.in_ok-moves.moves.items (reverse c.wait.new.work.items)
    (c.in_ok-wait.ensures ∙ ap (λ (w : List Waiting). map (waiting 0) c.in_ok-moves.moves.items ++ reverse w) c.new-work.ensures.items)
    (one_is_sound c.args.room graph (entry.Arrives [] c.args.arity c.in_ok-step.step) c.in_ok-moves.moves.items c.in_ok-moves.ensures
    (sound_anywhere c.args.room graph [] [] 0 c.args.arity c.in_ok-step.step
    (c.in_ok-step.ensures.sound c.args.room graph c.requires.condition tt c.in_ok-forms.ensures.room)))

pub returns-clause-same : goal.returns-clause-same
returns-clause-same c =
    let graph = graph_of (subject.Condition c.args.arity) in
    let e = expression_of c.args.condition.now in
    holding_same c.args.room graph c.args.arity e c.in_ok-moves.moves.items (reverse c.wait.new.work.items)
    (c.in_ok-wait.ensures ∙ ap (λ (w : List Waiting). map (waiting 0) c.in_ok-moves.moves.items ++ reverse w) c.new-work.ensures.items)
    c.requires.room
    (ap (λ (moves : List Entry). map entry_of moves) c.in_ok-moves.ensures
    ∙ ap (λ (m : Move). gives m (fresh c.args.arity)) (c.in_ok-step.ensures.step c.args.room graph
    ∙ ap (λ (forms : List Form). evaluating c.args.room graph e ToHold forms 0) c.in_ok-forms.ensures.forms))
