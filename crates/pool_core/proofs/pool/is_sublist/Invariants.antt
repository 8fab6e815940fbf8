use Rattle.std.proofs.Common.{◌↔◌, ◌≤◌, length, drop}
use Rattle.houdini.specs.Within.{IsSublist}
use Rattle.pool_core.proofs.pool.is_sublist.Given as goal

abbrev pub invariant-loop-next : goal.invariant-loop-next
invariant-loop-next l = record {
  within : l.count ≤ length l.atoms;
  same : IsSublist l.atoms l.given ↔ IsSublist (drop l.count l.atoms) (drop l.next-index l.given);
}
