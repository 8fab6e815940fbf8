use Rattle.std.proofs.Common.{suc, ◌<◌, ◌≤◌, length, arith}
use Rattle.miners.proofs.Enumerated.{start_ended, step_ended, end_ended}
use Rattle.miners.proofs.listing.widened.Goals as goal

pub loop-shape-init : goal.loop-shape-init
loop-shape-init c = λ n k. start_ended c.args.kind n c.args.index k c.args.shapes.now _ c.new-made.ensures.items

pub loop-shape-preserved : goal.loop-shape-preserved
loop-shape-preserved c = λ n k.
    let below : c.loop-shape.shape-index < length c.args.shapes.now = omega (arith, c.loop-shape-test.true) in
    step_ended c.args.kind n c.args.index (suc k) c.args.shapes.now c.loop-shape.shape-index _ _ _ _ below
    (c.in_ok-add_nexts.ensures n k) (c.loop-shape.invariant n k)

pub returns : goal.returns
returns c = λ n k.
    let past : length c.args.shapes.now ≤ c.loop-shape.shape-index = omega (arith, c.loop-shape-test.false) in
    end_ended c.args.kind n c.args.index (suc k) c.args.shapes.now c.loop-shape.shape-index _ _ past (c.loop-shape.invariant n k)
