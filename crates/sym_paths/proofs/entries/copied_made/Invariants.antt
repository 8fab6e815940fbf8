use Rattle.std.proofs.Common.{◌≡◌, ℕ, ◌++◌, map, reverse, length, All}
use Rattle.flow_graph.specs.FlowGraph.{FlowGraph}
use Rattle.sym_paths.specs.Arrivals.{entry_of, MadeHasRoom, IsUnderWay, EntryIsSound}
use Rattle.sym_paths.proofs.Advancing.{with_made}
use Rattle.sym_paths.proofs.entries.copied_made.Given as goal

abbrev pub invariant-loop-made : goal.invariant-loop-made
invariant-loop-made l = ((room : ℕ) (graph : FlowGraph) → map entry_of l.moves.items ++ with_made room graph l.pending (reverse l.left.items)
    ≡ with_made room graph l.pending l.fn.made.items)
    × ((room : ℕ) (graph : FlowGraph) → IsUnderWay room graph l.pending → All (MadeHasRoom room) l.fn.made.items
    → All (EntryIsSound room graph) l.moves.items × All (MadeHasRoom room) l.left.items)

abbrev pub decreases-loop-made : goal.decreases-loop-made
decreases-loop-made l = length l.left.items
