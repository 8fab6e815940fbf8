use Rattle.std.proofs.Common.{◌≡◌, ◌++◌, map, take, drop}
use Rattle.miners.specs.Kept.{lowered}
use Rattle.miners.proofs.kept.lower_all.Given as goal

abbrev pub invariant-loop-bound : goal.invariant-loop-bound
invariant-loop-bound l =
    l.bounds ≡ map (lowered l.point) (take l.bound-index l.initial.bounds) ++ drop l.bound-index l.initial.bounds
