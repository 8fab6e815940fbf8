use Rattle.std.proofs.Common.{◌≤◌, arith}
use Rattle.std.proofs.lemmas.List.{take_all}
use Rattle.pool_core.proofs.Numbered.{numbers, first_fronts}
use Rattle.pool_core.proofs.lives.Lives.new.Goals as goal

pub returns : goal.returns
returns c = λ alignment named.
    let past : 12 ≤ c.loop-alignment.alignment-index = omega (arith, c.loop-alignment-test.false) in
    rw (c.loop-alignment.invariant, take_all c.loop-alignment.alignment-index numbers past) (first_fronts c.args.subject.now alignment named)
