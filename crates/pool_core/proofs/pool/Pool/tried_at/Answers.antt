use Rattle.std.proofs.Common.{◌≤◌, length, arith, sym, subst}
use Rattle.pool_core.specs.History.{pairs_of}
use Rattle.pool_core.specs.Plays.{State}
use Rattle.pool_core.proofs.Pooling.{kept_few}
use Rattle.pool_core.proofs.pool.Pool.tried_at.Goals as goal

pub tried_at-requires : goal.tried_at-requires
tried_at-requires c =
    let few = subst (λ (s : State). c.args.prefix ≤ length (pairs_of s.items)) (sym c.self.view_is) c.requires in
    omega (arith, few, kept_few c.self.inside.subject c.self.inside.log c.self.inside.pairs c.self.inside.lives.fronts.items c.self.invariant)
