use Rattle.walks.specs.Laws.{IsNarrowPair}
use Rattle.pool_core.specs.declared.pages.Added.{Added}
use Rattle.pool_core.proofs.Beside.{all_at, front_grows}
use Rattle.pool_core.proofs.lives.Front.follow.Goals as goal

pub add-requires-clause-narrow : goal.add-requires-clause-narrow
add-requires-clause-narrow c =
    rw c.pair.ensures (all_at (λ (added : Added). IsNarrowPair added.pair) c.args.pages.now c.loop-self.self.count c.get-added.result.now
    c.requires.narrow c.get-added.ensures)

pub loop-self-preserved : goal.loop-self-preserved
loop-self-preserved c = λ subject alignment was.
    front_grows subject c.args.pages.now alignment c.loop-self.self c.add.new.self c.get-added.result.now
    (c.loop-self.invariant subject alignment was) c.get-added.ensures
    (rw c.pair.ensures at c.in_ok-add.ensures.live)
    c.in_ok-add.ensures.count

pub returns-in_err-add-clause-front : goal.returns-in_err-add-clause-front
returns-in_err-add-clause-front c = λ subject alignment was.
    rw c.in_err-add.ensures.err (c.loop-self.invariant subject alignment was)
