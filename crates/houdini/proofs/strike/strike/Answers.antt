use Rattle.std.proofs.Common.{arith}
use Rattle.houdini.proofs.Turning.{one_has_turned, is_left}
use Rattle.houdini.proofs.strike.strike.Goals as goal

pub turn-requires : goal.turn-requires
turn-requires c = is_left _ _ _ _ _ _ (omega arith) c.loop-done.invariant

pub loop-done-preserved : goal.loop-done-preserved
loop-done-preserved c =
    rw (c.in_ok-now.ensures.found, c.in_ok-now.ensures.entries) (one_has_turned _ _ _ _ _ _ (omega arith) c.loop-done.invariant)
