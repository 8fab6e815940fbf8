use Rattle.std.proofs.Common.{map, drop}
use Rattle.path_product.specs.Coded.{path_of_side}
use Rattle.path_product.specs.Making.{Leaves, second_walk}
use Rattle.path_product.proofs.clause.couple_with_second.Given as goal

abbrev pub invariant-loop-right : goal.invariant-loop-right
invariant-loop-right l =
    Leaves
    (second_walk l.source.node l.source.first l.source.second (map path_of_side l.second) l.condition (path_of_side l.left))
    (second_walk l.source.node l.source.first l.source.second (map path_of_side (drop l.right-index l.second)) l.condition (path_of_side l.left))
    l.initial.clauses.items l.clauses.items
