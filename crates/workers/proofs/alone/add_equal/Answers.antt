use Rattle.std.proofs.Common.{[], ◌∷◌, ◌++◌, Err, suc, sym, subst}
use Rattle.c_ast.specs.Comparison.{Comparison}
use Rattle.pool_core.specs.declared.item.Item.TheVariants as item
use Rattle.pool_core.specs.History.{IsLegal}
use Rattle.pool_core.specs.Plays.{State, Append, Answers}
use Rattle.workers.specs.Alone.{IsSampledTo}
use Rattle.workers.proofs.Refusing.{pair_is_answered}
use Rattle.workers.proofs.Sampling.{pair_sampled}
use Rattle.workers.proofs.alone.add_equal.Goals as goal

pub for_memory-requires : goal.for_memory-requires
for_memory-requires c =
    pair_is_answered c.args.pool.now c.args.index c.args.pair c.in-Err.why
    (subst (λ (s : Comparison). IsSampledTo s c.args.pool.now.items c.args.index) (sym c.requires.own) c.requires.sampled)
    (subst (λ (s : Comparison). Answers c.args.pool.now (Append 0 s c.args.index c.args.pair) (Err c.in-Err.why)) (sym c.requires.own) c.in-Err.ensures.answers)

pub returns-in-Ok-clause-sampled : goal.returns-in-Ok-clause-sampled
returns-in-Ok-clause-sampled c =
    let new = c.in-Ok.ensures.changes in
    let legal = subst (λ (s : State). IsLegal s.subject s.items) new c.history.ensures.legal in
    subst (λ (s : State). IsSampledTo c.args.subject.now s.items (suc c.args.index)) (sym new)
    (pair_sampled c.args.subject.now c.args.pool.now.items c.args.index c.args.pair c.requires.sampled c.requires.equal
    (subst (λ (s : Comparison). IsLegal s (c.args.pool.now.items ++ item.Pair 0 c.args.index c.args.pair ∷ [])) c.requires.own legal))
