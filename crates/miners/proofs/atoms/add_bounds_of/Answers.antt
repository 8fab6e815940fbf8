use Rattle.std.proofs.Common.{◌<◌, length, arith}
use Rattle.miners.specs.Sparse.{coefs_of}
use Rattle.miners.proofs.KeptLemmas.{bounds_step}
use Rattle.miners.proofs.atoms.add_bounds_of.Goals as goal

pub loop-constant-preserved : goal.loop-constant-preserved
loop-constant-preserved c =
    let below : c.loop-constant.constant-index < length c.args.constants.now = omega (arith, c.loop-constant-test.true) in
    bounds_step c.args.constants.now (coefs_of c.args.width c.args.least.now.shape) c.args.least.now.sum c.loop-constant.constant-index _ _ _ _
    below c.in_ok-add_bound.ensures c.loop-constant.invariant
