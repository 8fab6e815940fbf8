use Rattle.std.proofs.Common.{◌≡◌, ◌++◌, map, drop}
use Rattle.horn_clauses.specs.Node.{node}
use Rattle.path_product.specs.Product.{kept}
use Rattle.path_product.specs.Queue.{is_listed}
use Rattle.path_product.proofs.visits.push_row.Given as goal

abbrev pub invariant-loop-other : goal.invariant-loop-other
invariant-loop-other l = l.nodes.items ++ kept (is_listed l.queue) (map (node l.place) (drop l.other-index l.second))
    ≡ l.initial.nodes.items ++ kept (is_listed l.queue) (map (node l.place) l.second)
