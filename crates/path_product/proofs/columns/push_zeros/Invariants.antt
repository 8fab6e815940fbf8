use Rattle.std.proofs.Common.{◌≡◌, ◌++◌}
use Rattle.path_product.specs.Clauses.{zeros}
use Rattle.path_product.proofs.columns.push_zeros.Given as goal

abbrev pub invariant-loop-left : goal.invariant-loop-left
invariant-loop-left l = l.made.items ++ zeros l.left ≡ l.initial.made.items ++ zeros l.count

abbrev pub decreases-loop-left : goal.decreases-loop-left
decreases-loop-left l = l.left
