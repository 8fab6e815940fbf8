use Rattle.std.proofs.Common.{◌≡◌, ◌++◌, drop}
use Rattle.path_product.specs.Product.{kept, pairs}
use Rattle.path_product.specs.Queue.{is_listed}
use Rattle.path_product.proofs.visits.push_rows.Given as goal

abbrev pub invariant-loop-place : goal.invariant-loop-place
invariant-loop-place l = l.nodes.items ++ kept (is_listed l.queue) (pairs (drop l.place-index l.first) l.second)
    ≡ l.initial.nodes.items ++ kept (is_listed l.queue) (pairs l.first l.second)
