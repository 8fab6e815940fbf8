use Rattle.std.proofs.Common.{◌∷◌, [], if◌then◌else◌, subst, sym}
use Rattle.std.proofs.lemmas.List.Elements.{All-push}
use Rattle.sym_paths.specs.Walk.{gives}
use Rattle.sym_paths.specs.Machine.{Goes}
use Rattle.sym_paths.specs.Arrivals.{pending_of, answer_of, entry_of, EntryIsSound}
use Rattle.std.specs.List.{All}
use Rattle.sym_paths.proofs.Advancing.{onward_step}
use Rattle.sym_paths.proofs.entries.copied_answers.Goals as goal

pub loop-answer-preserved : goal.loop-answer-preserved
loop-answer-preserved c = (
  onward_step (answer_of c.args.columns) entry_of
      (λ test. gives (Goes (if test then pending_of c.args.first.now else pending_of c.args.second.now)))
      c.loop-answer.moves.items c.push.new.self.items (c.in_ok-copied_entry.field-0 ∷ []) c.in-Some.answer
      c.loop-answer.left.items c.pop.new.self.items c.args.answers.items c.in-Some.ensures.items c.in_ok-push.ensures.items
      c.in_ok-copied_entry.ensures.entry c.loop-answer.invariant.0,
  λ room graph first second. subst (All (EntryIsSound room graph)) (sym c.in_ok-push.ensures.items)
      (All-push (EntryIsSound room graph) c.loop-answer.moves.items c.in_ok-copied_entry.field-0 (c.loop-answer.invariant.1 room graph first second)
      (c.in_ok-copied_entry.ensures.sound room graph first second)),
)
