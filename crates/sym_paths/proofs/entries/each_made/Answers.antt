use Rattle.std.proofs.Common.{◌∷◌, [], List, map, subst, sym, ap, ◌∙◌}
use Rattle.std.specs.Prelude.{Some}
use Rattle.std.specs.List.{All}
use Rattle.std.proofs.lemmas.List.Elements.{All-push, All-pop}
use Rattle.sym_paths.specs.declared.task.Entry.{Entry}
use Rattle.sym_paths.specs.Walk.{gives}
use Rattle.sym_paths.specs.Machine.{Goes, with_todo, todo}
use Rattle.sym_paths.specs.Arrivals.{pending_of, made_of, entry_of, MadeHasRoom, EntryIsSound}
use Rattle.sym_paths.proofs.Advancing.{onward_both}
use Rattle.sym_paths.proofs.entries.each_made.Goals as goal

pub returns-clause-moves : goal.returns-clause-moves
returns-clause-moves c room graph =
    ap (λ (moves : List Entry). map entry_of moves) c.in_ok-push-in-Some.ensures.items
    ∙ onward_both made_of entry_of
    (λ form. gives (Goes (with_todo room graph (pending_of c.args.pending) (pending_of c.args.pending).tasks
    (todo [] (form ∷ (pending_of c.args.pending).stack)))))
    c.in_ok-moves-in-Some.moves.items (c.in_ok-entry-in-Some.entry ∷ []) c.pop.new.self.items c.args.made.items c.in-Some.last c.in-Some.ensures.items
    (c.in_ok-moves-in-Some.ensures.moves room graph) (c.in_ok-entry-in-Some.ensures.entry room graph)

pub returns-clause-sound : goal.returns-clause-sound
returns-clause-sound c room graph under has =
    let parts = All-pop (MadeHasRoom room) c.args.made.items c.pop.new.self.items (Some c.in-Some.last) c.in-Some.ensures.items has in
    subst (All (EntryIsSound room graph)) (sym {A = List Entry} c.in_ok-push-in-Some.ensures.items)
    (All-push (EntryIsSound room graph) c.in_ok-moves-in-Some.moves.items c.in_ok-entry-in-Some.entry
    (c.in_ok-moves-in-Some.ensures.sound room graph under parts.0) (c.in_ok-entry-in-Some.ensures.sound room graph under parts.1))
