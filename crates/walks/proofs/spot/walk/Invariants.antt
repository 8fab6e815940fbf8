use Rattle.std.proofs.Common.{◌≡◌, map, take}
use Rattle.walks.specs.Walk.{spot_at}
use Rattle.walks.proofs.spot.walk.Given as goal

abbrev pub invariant-loop-position : goal.invariant-loop-position
invariant-loop-position l = l.spots ≡ map (spot_at l.pair) (take l.position-index l.position-items)
