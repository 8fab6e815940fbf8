use Rattle.std.proofs.Common.{arith, ◌∙◌, sym}
use Rattle.pool_core.proofs.Comparing.{found_here, found_later, found_nowhere}
use Rattle.pool_core.proofs.pool.has_later_pair.Goals as goal

pub returns-then-get-worker : goal.returns-then-get-worker
returns-then-get-worker c =
    sym (c.loop-k.invariant ∙ found_here c.args.pairs.now c.args.worker c.loop-k.k c.get.result.now
    (omega (arith, c.loop-k-test.true, c.len-k-end.ensures.number)) c.get.ensures c.if-get-worker.true)

pub loop-k-preserved : goal.loop-k-preserved
loop-k-preserved c =
    c.loop-k.invariant ∙ found_later c.args.pairs.now c.args.worker c.loop-k.k c.get.result.now
    (omega (arith, c.loop-k-test.true, c.len-k-end.ensures.number)) c.get.ensures c.if-get-worker.false

pub returns : goal.returns
returns c =
    sym (c.loop-k.invariant ∙ found_nowhere c.args.pairs.now c.args.worker c.loop-k.k
    (omega (arith, c.loop-k-test.false, c.len-k-end.ensures.number)))
