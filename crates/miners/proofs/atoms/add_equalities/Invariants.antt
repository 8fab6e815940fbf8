use Rattle.std.proofs.Common.{◌≡◌, ◌++◌, map, drop}
use Rattle.miners.specs.Kept.{fixed_atom}
use Rattle.miners.proofs.atoms.add_equalities.Given as goal

abbrev pub invariant-loop-equality_left : goal.invariant-loop-equality_left
invariant-loop-equality_left l =
    l.atoms ++ map (fixed_atom l.width) (drop l.equality_left-index l.fixed) ≡ l.initial.atoms ++ map (fixed_atom l.width) l.fixed
