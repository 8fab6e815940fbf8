use Rattle.std.proofs.Common.{◌≡◌, ◌++◌, if◌then◌else◌, map, reverse, length, All}
use Rattle.sym_paths.specs.Walk.{onward}
use Rattle.sym_paths.specs.Machine.{entered}
use Rattle.sym_paths.specs.Arrivals.{graph_of, answer_of, entry_of, EntryIsSound}
use Rattle.sym_paths.proofs.node.each_entered.Given as goal

abbrev pub invariant-loop-answer : goal.invariant-loop-answer
invariant-loop-answer l = (map entry_of l.moves.items
    ++ onward (map (answer_of l.columns) (reverse l.waiting.items))
    (λ test. entered l.room (graph_of l.subject) l.left (if test then l.nodes.0 else l.nodes.1) l.forms)
    ≡ onward (map (answer_of l.columns) l.fn.answers.items)
    (λ test. entered l.room (graph_of l.subject) l.left (if test then l.nodes.0 else l.nodes.1) l.forms))
    × All (EntryIsSound l.room (graph_of l.subject)) l.moves.items

abbrev pub decreases-loop-answer : goal.decreases-loop-answer
decreases-loop-answer l = length l.waiting.items
