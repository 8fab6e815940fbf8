use Rattle.std.proofs.Common.{◌<◌, length, arith}
use Rattle.miners.proofs.KeptLemmas.{leasts_step}
use Rattle.miners.proofs.atoms.add_bounds.Goals as goal

pub loop-least-preserved : goal.loop-least-preserved
loop-least-preserved c =
    let below : c.loop-least.least-index < length c.args.leasts.now = omega (arith, c.loop-least-test.true) in
    leasts_step c.args.constants.now c.args.width c.args.leasts.now c.loop-least.least-index _ _ _ _ below c.in_ok-add_bounds_of.ensures
    c.loop-least.invariant
