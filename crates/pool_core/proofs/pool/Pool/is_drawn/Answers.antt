use Rattle.std.proofs.Common.{◌≤◌, length, arith, sym, subst}
use Rattle.std.specs.Prelude.{Contains}
use Rattle.pool_core.specs.History.{pairs_of, IsLegal}
use Rattle.pool_core.specs.Plays.{State}
use Rattle.pool_core.proofs.Pooling.{kept_few, drawn_at}
use Rattle.pool_core.proofs.pool.Pool.is_drawn.Goals as goal

pub mined-requires : goal.mined-requires
mined-requires c =
    let few = subst (λ (s : State). c.args.prefix ≤ length (pairs_of s.items)) (sym c.self.view_is) c.requires in
    omega (arith, few, kept_few c.self.inside.subject c.self.inside.log c.self.inside.pairs c.self.inside.lives.fronts.items c.self.invariant)

pub returns-in-Some : goal.returns-in-Some
returns-in-Some c =
    let one = drawn_at c.args.self.now c.args.prefix c.args.alignment c.in-Some.item.now c.args.family.now
    (subst (λ (s : State). IsLegal s.subject s.items) c.self.view_is c.self.invariant.legal)
    (subst (λ (s : State). Contains s.items c.in-Some.item.now) c.self.view_is c.in-Some.ensures.stands) c.in-Some.ensures.of in
    (λ drawn. one.0 (c.has_drawn.ensures.0 drawn), λ mined. c.has_drawn.ensures.1 (one.1 mined))
