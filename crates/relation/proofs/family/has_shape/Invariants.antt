use Rattle.std.proofs.Common.{◌≡◌, length}
use Rattle.relation.proofs.Shaping.{ListsAll}
use Rattle.relation.proofs.family.has_shape.Given as goal

abbrev pub invariant-loop-i : goal.invariant-loop-i
invariant-loop-i l = record {
  long : length l.product.nodes ≡ length l.family.nodes;
  lists : ListsAll l.first l.second l.family.nodes l.product.nodes l.i;
}
