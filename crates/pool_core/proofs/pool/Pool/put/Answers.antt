use Rattle.std.proofs.Common.{sym, subst}
use Rattle.pool_core.specs.History.{MayFollow}
use Rattle.pool_core.specs.Plays.{State}
use Rattle.pool_core.specs.Tables.{Logged}
use Rattle.pool_core.specs.Beside.{IsKept}
use Rattle.pool_core.proofs.Pooling.{unlogged, has_room, kept_on}
use Rattle.pool_core.proofs.pool.Pool.put.Goals as goal

pub push-requires-clause-new : goal.push-requires-clause-new
push-requires-clause-new c =
    unlogged c.self.inside.subject c.self.inside.log c.self.invariant.samples c.self.invariant.legal c.args.item
    (subst (λ (s : State). MayFollow s.subject s.items c.args.item) (sym c.self.view_is) c.requires.follows)

pub push-requires-clause-room : goal.push-requires-clause-room
push-requires-clause-room c =
    has_room c.self.inside.subject c.self.inside.log c.self.invariant.samples c.self.invariant.legal c.args.item
    (subst (λ (s : State). MayFollow s.subject s.items c.args.item) (sym c.self.view_is) c.requires.follows)

pub invariant_of-self : goal.invariant_of-self
invariant_of-self c =
    subst (λ (log : Logged). IsKept c.self.inside.subject log c.self.inside.pairs c.self.inside.lives.fronts.items) (sym c.push.ensures.items)
    (kept_on c.self.inside.subject c.self.inside.log c.self.inside.pairs c.self.inside.lives.fronts.items c.self.invariant c.args.item
    (subst (λ (s : State). MayFollow s.subject s.items c.args.item) (sym c.self.view_is) c.requires.follows) c.requires.no_pair)
