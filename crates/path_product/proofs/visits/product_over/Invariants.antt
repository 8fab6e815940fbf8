use Rattle.std.proofs.Common.{◌-◌, length}
use Rattle.path_product.specs.Product.{all_nodes}
use Rattle.path_product.specs.Queue.{IsUnderWay}
use Rattle.path_product.proofs.visits.product_over.Given as goal

abbrev pub invariant-loop-node : goal.invariant-loop-node
invariant-loop-node l = IsUnderWay l.first l.second l.condition l.alignment l.queue l.count l.clauses.items

abbrev pub decreases-loop-node : goal.decreases-loop-node
decreases-loop-node l = length (all_nodes l.first l.second) - l.count
