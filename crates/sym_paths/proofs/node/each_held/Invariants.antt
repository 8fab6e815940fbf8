use Rattle.std.proofs.Common.{◌≡◌, ◌++◌, map, reverse, length}
use Rattle.std.specs.Prelude.{ℕ, All}
use Rattle.flow_graph.specs.FlowGraph.{FlowGraph}
use Rattle.sym_paths.specs.Walk.{onward}
use Rattle.sym_paths.specs.Machine.{Ends, only_where, holding}
use Rattle.sym_paths.specs.Arrivals.{answer_of, entry_of, EntryIsSound}
use Rattle.sym_paths.proofs.node.each_held.Given as goal

abbrev pub invariant-loop-answer : goal.invariant-loop-answer
invariant-loop-answer l = (map entry_of l.moves.items ++ onward (map (answer_of l.columns) (reverse l.waiting.items)) (only_where (Ends holding))
    ≡ onward (map (answer_of l.columns) l.fn.answers.items) (only_where (Ends holding)))
    × ((room : ℕ) (graph : FlowGraph) → All (EntryIsSound room graph) l.moves.items)

abbrev pub decreases-loop-answer : goal.decreases-loop-answer
decreases-loop-answer l = length l.waiting.items
