use Rattle.std.proofs.Common.{rules}
use Rattle.pool_core.proofs.Comparing.{greedy_end}
use Rattle.pool_core.proofs.pool.is_sublist.Goals as goal

pub returns : goal.returns
returns c =
    let ends = greedy_end c.args.atoms.now c.args.given.now c.loop-next.count c.loop-next.next-index c.loop-next.invariant.within c.loop-next-test.false in (
      λ all. c.loop-next.invariant.same.1 (ends.1 (search rules)),
      λ sub. let same = ends.0 (c.loop-next.invariant.same.0 sub) in search rules,
    )
