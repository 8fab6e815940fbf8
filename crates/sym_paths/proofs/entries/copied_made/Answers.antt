use Rattle.std.proofs.Common.{rules, ◌≡◌, ◌∷◌, [], List, subst, sym, ap, ◌∙◌}
use Rattle.std.specs.List.{All}
use Rattle.sym_paths.specs.declared.task.Entry.{Entry}
use Rattle.std.specs.Prelude.{Some}
use Rattle.std.proofs.lemmas.List.Elements.{All-push, All-pop}
use Rattle.sym_paths.specs.Walk.{gives, onward}
use Rattle.sym_paths.specs.Machine.{Pending, Goes, with_todo, todo}
use Rattle.sym_paths.specs.Arrivals.{pending_of, made_of, entry_of, MadeHasRoom, EntryIsSound}
use Rattle.sym_paths.proofs.Advancing.{onward_step, onward_ends}
use Rattle.sym_paths.proofs.entries.copied_made.Goals as goal

pub loop-made-preserved : goal.loop-made-preserved
loop-made-preserved c = (
  λ room graph. onward_step made_of entry_of
      (λ form. gives (Goes (with_todo room graph (pending_of c.args.pending.now) (pending_of c.args.pending.now).tasks
      (todo [] (form ∷ (pending_of c.args.pending.now).stack)))))
      c.loop-made.moves.items c.push.new.self.items (c.in_ok-entry.entry ∷ []) c.in-Some.made
      c.loop-made.left.items c.pop.new.self.items c.args.made.items c.in-Some.ensures.items c.in_ok-push.ensures.items
      (c.in_ok-entry.ensures.entry room graph ∙ ap (λ (p : Pending). onward (made_of c.in-Some.made ∷ []) (λ form. gives (Goes
      (with_todo room graph p p.tasks (todo [] (form ∷ p.stack)))))) c.in_ok-case.ensures.same) (c.loop-made.invariant.0 room graph),
  λ room graph under has.
      let before = c.loop-made.invariant.1 room graph under has in
      let parts = All-pop (MadeHasRoom room) c.loop-made.left.items c.pop.new.self.items (Some c.in-Some.made) c.in-Some.ensures.items before.1 in (
        subst (All (EntryIsSound room graph)) (sym {A = List Entry} c.in_ok-push.ensures.items)
            (All-push (EntryIsSound room graph) c.loop-made.moves.items c.in_ok-entry.entry before.0
            (c.in_ok-entry.ensures.sound room graph (c.in_ok-case.ensures.sound room graph under) parts.1)),
        parts.0,
      ),
)

pub returns-clause-moves : goal.returns-clause-moves
returns-clause-moves c room graph =
    let none : c.loop-made.left.items ≡ [] = search rules in
    onward_ends made_of entry_of
    (λ form. gives (Goes (with_todo room graph (pending_of c.args.pending.now) (pending_of c.args.pending.now).tasks
    (todo [] (form ∷ (pending_of c.args.pending.now).stack)))))
    c.loop-made.moves.items c.loop-made.left.items c.args.made.items none (c.loop-made.invariant.0 room graph)

pub returns-clause-sound : goal.returns-clause-sound
returns-clause-sound c room graph under has = (c.loop-made.invariant.1 room graph under has).0
