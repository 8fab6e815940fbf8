use Rattle.std.proofs.Common.{◌≡◌, ℕ, ◌++◌, map, reverse, length, All}
use Rattle.flow_graph.specs.FlowGraph.{FlowGraph}
use Rattle.sym_paths.specs.Arrivals.{entry_of, IsUnderWay, EntryIsSound}
use Rattle.sym_paths.proofs.Advancing.{with_answers}
use Rattle.sym_paths.proofs.entries.copied_answers.Given as goal

abbrev pub invariant-loop-answer : goal.invariant-loop-answer
invariant-loop-answer l = (map entry_of l.moves.items ++ with_answers l.columns l.first l.second (reverse l.left.items)
    ≡ with_answers l.columns l.first l.second l.fn.answers.items)
    × ((room : ℕ) (graph : FlowGraph) → IsUnderWay room graph l.first → IsUnderWay room graph l.second
    → All (EntryIsSound room graph) l.moves.items)

abbrev pub decreases-loop-answer : goal.decreases-loop-answer
decreases-loop-answer l = length l.left.items
