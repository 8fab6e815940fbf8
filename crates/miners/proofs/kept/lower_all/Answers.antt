use Rattle.std.proofs.Common.{◌<◌, length, arith}
use Rattle.miners.specs.Kept.{lowered}
use Rattle.miners.proofs.KeptLemmas.{map_in_place}
use Rattle.miners.proofs.kept.lower_all.Goals as goal

pub loop-bound-preserved : goal.loop-bound-preserved
loop-bound-preserved c =
    let below : c.loop-bound.bound-index < length c.args.bounds.now = omega (arith, c.loop-bound-test.true) in
    map_in_place (lowered c.args.point.now) c.args.bounds.now c.loop-bound.bounds c.loop-bound.bound-index _ c.lower.new.self below
    c.loop-bound.invariant c.lower.ensures
