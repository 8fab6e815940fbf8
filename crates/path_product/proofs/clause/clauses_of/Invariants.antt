use Rattle.std.proofs.Common.{[], map, drop}
use Rattle.path_product.specs.Clauses.{clause_walk}
use Rattle.path_product.specs.Coded.{path_of_side}
use Rattle.path_product.specs.Making.{Leaves}
use Rattle.path_product.proofs.clause.clauses_of.Given as goal

abbrev pub invariant-loop-condition : goal.invariant-loop-condition
invariant-loop-condition l =
    Leaves
    (clause_walk l.source.node l.source.first l.source.second l.conditions (map path_of_side l.first) (map path_of_side l.second))
    (clause_walk l.source.node l.source.first l.source.second (drop l.condition-index l.conditions) (map path_of_side l.first) (map path_of_side l.second))
    [] l.clauses.items
