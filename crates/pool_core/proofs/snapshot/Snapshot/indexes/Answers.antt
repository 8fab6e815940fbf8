use Rattle.pool_core.proofs.Beside.{next_index}
use Rattle.pool_core.proofs.snapshot.Snapshot.indexes.Goals as goal

pub loop-at-preserved : goal.loop-at-preserved
loop-at-preserved c =
    let had = rw (← c.self.view_is) at c.loop-at.invariant in
    rw (c.in_ok-push.ensures.ok, ← c.self.view_is) (next_index c.self.inside.pairs c.loop-at.made _ c.loop-at.at c.get.result.now c.get.ensures had)
