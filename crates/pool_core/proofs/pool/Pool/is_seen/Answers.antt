use Rattle.std.proofs.Common.{arith, rules, sym, subst}
use Rattle.std.specs.Prelude.{Contains}
use Rattle.pool_core.specs.History.{HasPair, IsLegal}
use Rattle.pool_core.specs.Plays.{State}
use Rattle.pool_core.proofs.Pooling.{no_seen, seen_at}
use Rattle.pool_core.proofs.pool.Pool.is_seen.Goals as goal

pub returns-then-index-samples : goal.returns-then-index-samples
returns-then-index-samples c = (
  λ never. absurd (search rules),
  λ both.
      let below = no_seen c.self.inside.subject c.self.inside.log.items c.args.index c.args.input.now c.args.first.now c.args.second.now
      c.self.invariant.legal
      (subst (λ (s : State). HasPair s.items c.args.index c.args.input.now c.args.first.now c.args.second.now) (sym c.self.view_is) both.0) in
      absurd (omega (arith, below, c.if-index-samples.true, c.samples.ensures, c.self.invariant.samples)),
)

pub returns-in-Some : goal.returns-in-Some
returns-in-Some c =
    let one = seen_at c.args.self.now.subject c.args.self.now.items c.args.index c.in-Some.item.now c.args.input.now c.args.first.now c.args.second.now
    (subst (λ (s : State). IsLegal s.subject s.items) c.self.view_is c.self.invariant.legal)
    (subst (λ (s : State). Contains s.items c.in-Some.item.now) c.self.view_is c.in-Some.ensures.stands) c.in-Some.ensures.of in
    (λ seen. (one.0 (c.is_such_pair.ensures.0 seen), search rules), λ both. c.is_such_pair.ensures.1 (one.1 both.0))
