use Rattle.std.proofs.Common.{◌≡◌, [], reverse}
use Rattle.sym_paths.specs.Heights.{weights}
use Rattle.sym_paths.specs.Waiting.{walk_of, searched_from, CanGoOn}
use Rattle.sym_paths.specs.Arrivals.{graph_of}
use Rattle.sym_paths.proofs.search.search.Given as goal

abbrev pub invariant-loop-next : goal.invariant-loop-next
invariant-loop-next l = CanGoOn l.room (graph_of l.subject) l.rows (reverse l.work.items) l.cases.items
    × (searched_from l.room (graph_of l.subject) [] (reverse l.initial.work.items) []
    ≡ searched_from l.room (graph_of l.subject) l.rows (reverse l.work.items) l.cases.items)

abbrev pub decreases-loop-next : goal.decreases-loop-next
decreases-loop-next l = weights (graph_of l.subject) (walk_of l.rows (reverse l.work.items))
