use Rattle.flow_graph.proofs.Stopping.{nexts_one, nexts_other}
use Rattle.flow_graph.proofs.stop.nexts_of.Goals as goal
use Rattle.flow_graph.proofs.stop.nexts_of.Goals.{in-Mark+in_ok-insert, in_default}

pub loop-op-preserved : goal.loop-op-preserved
loop-op-preserved c =
    elim c.match-op.branch [
      | in-Mark+in_ok-insert w ↦
          nexts_one c.args.ops.now c.loop-op.op-index c.loop-op.nexts c.match-op.nexts c.op-item.result c.loop-op.invariant c.loop-op-test.true c.op-item.is
          w.in-Mark.mark w.in-Mark.next w.in-Mark.is (λ q. rw w.nexts-is (w.in_ok-insert.ensures.updates.0 q))
      | in_default w ↦
          nexts_other c.args.ops.now c.loop-op.op-index c.loop-op.nexts c.match-op.nexts c.op-item.result c.loop-op.invariant c.loop-op-test.true c.op-item.is
          w.in_default.not-Mark w.nexts-is
    ]
