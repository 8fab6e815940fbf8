use Rattle.std.proofs.Common.{◌∷◌, [], List, if◌then◌else◌, map, subst, sym, ap, ◌∙◌}
use Rattle.std.specs.List.{All}
use Rattle.std.proofs.lemmas.List.Elements.{All-push}
use Rattle.sym_paths.specs.declared.task.Entry.{Entry}
use Rattle.sym_paths.specs.Walk.{gives}
use Rattle.sym_paths.specs.Machine.{Goes}
use Rattle.sym_paths.specs.Arrivals.{pending_of, answer_of, entry_of, EntryIsSound}
use Rattle.sym_paths.proofs.Advancing.{onward_both}
use Rattle.sym_paths.proofs.entries.each_answer.Goals as goal

pub returns-clause-moves : goal.returns-clause-moves
returns-clause-moves c =
    ap (λ (moves : List Entry). map entry_of moves) c.in_ok-push-in-Some.ensures.items
    ∙ onward_both (answer_of c.args.columns) entry_of
    (λ test. gives (Goes (if test then pending_of c.args.first else pending_of c.args.second)))
    c.in_ok-moves-in-Some.moves.items (c.in_ok-entry-in-Some.entry ∷ []) c.pop.new.self.items c.args.answers.items c.in-Some.last c.in-Some.ensures.items
    c.in_ok-moves-in-Some.ensures.moves c.in_ok-entry-in-Some.ensures.entry

pub returns-clause-sound : goal.returns-clause-sound
returns-clause-sound c room graph first second =
    subst (All (EntryIsSound room graph)) (sym {A = List Entry} c.in_ok-push-in-Some.ensures.items)
    (All-push (EntryIsSound room graph) c.in_ok-moves-in-Some.moves.items c.in_ok-entry-in-Some.entry
    (c.in_ok-moves-in-Some.ensures.sound room graph first second) (c.in_ok-entry-in-Some.ensures.sound room graph first second))
