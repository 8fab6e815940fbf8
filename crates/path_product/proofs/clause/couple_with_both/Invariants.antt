use Rattle.std.proofs.Common.{map, drop}
use Rattle.path_product.specs.Coded.{path_of_side}
use Rattle.path_product.specs.Making.{Leaves, both_walk}
use Rattle.path_product.proofs.clause.couple_with_both.Given as goal

abbrev pub invariant-loop-left : goal.invariant-loop-left
invariant-loop-left l =
    Leaves
    (both_walk l.source.node l.source.first l.source.second (map path_of_side l.first) (map path_of_side l.second) l.condition)
    (both_walk l.source.node l.source.first l.source.second (map path_of_side (drop l.left-index l.first)) (map path_of_side l.second) l.condition)
    l.initial.clauses.items l.clauses.items
