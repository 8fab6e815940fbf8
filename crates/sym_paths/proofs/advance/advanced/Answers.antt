use Rattle.std.proofs.Common.{ap, sym, ◌∙◌, List}
use Rattle.std.specs.Prelude.{Some}
use Rattle.std.proofs.lemmas.List.Elements.{All-pop}
use Rattle.sym_paths.specs.Machine.{Task, advanced_by}
use Rattle.sym_paths.specs.Arrivals.{graph_of, fresh, task_of, pending_of, CanTake}
use Rattle.sym_paths.proofs.Advancing.{next_task}
use Rattle.sym_paths.proofs.advance.advanced.Goals as goal

pub perform-requires-clause-can : goal.perform-requires-clause-can
perform-requires-clause-can c = (
  (graph_of c.args.subject).vars,
  (All-pop (λ t. CanTake (graph_of c.args.subject).vars (task_of t)) c.args.pending.tasks.items c.pop.new.self.items (Some c.in-Some.task)
      c.in-Some.ensures.items c.requires.sound.tasks).1,
)

pub returns-in_ok-moves-in-Some-clause-moves : goal.returns-in_ok-moves-in-Some-clause-moves
returns-in_ok-moves-in-Some-clause-moves c =
    c.in_ok-moves-in-Some.ensures.moves (graph_of c.args.subject)
    ∙ sym (ap (λ (tasks : List Task). advanced_by c.args.room (graph_of c.args.subject) (pending_of c.args.pending) tasks (fresh c.args.columns))
    (next_task c.args.pending.tasks.items c.pop.new.self.items c.in-Some.task c.in-Some.ensures.items))

pub returns-in_ok-moves-in-Some-clause-sound : goal.returns-in_ok-moves-in-Some-clause-sound
returns-in_ok-moves-in-Some-clause-sound c =
    let parts = All-pop (λ t. CanTake (graph_of c.args.subject).vars (task_of t)) c.args.pending.tasks.items c.pop.new.self.items (Some c.in-Some.task)
    c.in-Some.ensures.items c.requires.sound.tasks in
    c.in_ok-moves-in-Some.ensures.sound (graph_of c.args.subject) (record {
      tasks = parts.0;
      stack = c.requires.sound.stack;
      goal = c.requires.sound.goal;
      forms = c.requires.sound.forms;
    }) parts.1
