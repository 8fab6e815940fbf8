use Rattle.std.proofs.Common.{◌≡◌, ◌++◌, map, drop}
use Rattle.miners.specs.Kept.{least_of, bounds_left}
use Rattle.miners.proofs.atoms.add_bounds.Given as goal

abbrev pub invariant-loop-least : goal.invariant-loop-least
invariant-loop-least l =
    l.atoms ++ bounds_left l.constants (map (least_of l.width) (drop l.least-index l.leasts))
    ≡ l.initial.atoms ++ bounds_left l.constants (map (least_of l.width) l.leasts)
