use Rattle.std.proofs.Common.{sym, subst}
use Rattle.std.specs.List.{All}
use Rattle.std.proofs.lemmas.List.Elements.{All-append}
use Rattle.sym_paths.specs.Machine.{Ends, only_where, holding}
use Rattle.sym_paths.specs.Arrivals.{answer_of, entry_of, EntryIsSound}
use Rattle.sym_paths.proofs.Advancing.{onward_step}
use Rattle.sym_paths.proofs.node.each_held.Goals as goal

pub loop-answer-preserved : goal.loop-answer-preserved
loop-answer-preserved c = (
  onward_step (answer_of c.args.columns) entry_of (only_where (Ends holding))
      c.loop-answer.moves.items c.append.new.self.items c.in_ok-found.found.items c.in-Some.answer
      c.loop-answer.waiting.items c.pop.new.self.items c.args.answers.items c.in-Some.ensures.items c.in_ok-append.ensures.items
      c.in_ok-found.ensures.moves c.loop-answer.invariant.0,
  λ room graph. subst (All (EntryIsSound room graph)) (sym c.in_ok-append.ensures.items)
      (All-append (EntryIsSound room graph) c.loop-answer.moves.items c.in_ok-found.found.items (c.loop-answer.invariant.1 room graph)
      (c.in_ok-found.ensures.sound room graph)),
)
