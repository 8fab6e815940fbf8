use Rattle.std.proofs.Common.{◌≡◌, ◌↔◌, ℕ, List, length, take, arith, ap, ◌∙◌, subst}
use Rattle.std.specs.Prelude.{IsTrue}
use Rattle.pool_core.specs.History.{indexes_of}
use Rattle.pool_core.specs.Plays.{State}
use Rattle.pool_core.proofs.Pooling.{kept_indexes, kept_few, few_of}
use Rattle.pool_core.proofs.pool.Pool.begins_with.Goals as goal

pub returns-clause-first : goal.returns-clause-first
returns-clause-first c =
    subst (λ (all : List ℕ). IsTrue c.begin_with.result ↔ (c.args.indexes.now ≡ take (length c.args.indexes.now) all))
    (kept_indexes c.self.inside.subject c.self.inside.log c.self.inside.pairs c.self.inside.lives.fronts.items c.self.invariant
    ∙ ap (λ (s : State). indexes_of s.items) c.self.view_is) c.begin_with.ensures

pub returns-clause-few : goal.returns-clause-few
returns-clause-few c = λ yes.
    few_of c.args.self.now.items c.args.indexes.now
    (subst (λ (all : List ℕ). c.args.indexes.now ≡ take (length c.args.indexes.now) all)
    (kept_indexes c.self.inside.subject c.self.inside.log c.self.inside.pairs c.self.inside.lives.fronts.items c.self.invariant
    ∙ ap (λ (s : State). indexes_of s.items) c.self.view_is) (c.begin_with.ensures.0 yes))

pub returns-clause-small : goal.returns-clause-small
returns-clause-small c = λ yes.
    let few = few_of c.self.inside.log.items c.args.indexes.now
    (subst (λ (all : List ℕ). c.args.indexes.now ≡ take (length c.args.indexes.now) all)
    (kept_indexes c.self.inside.subject c.self.inside.log c.self.inside.pairs c.self.inside.lives.fronts.items c.self.invariant)
    (c.begin_with.ensures.0 yes)) in
    omega (arith, few, kept_few c.self.inside.subject c.self.inside.log c.self.inside.pairs c.self.inside.lives.fronts.items c.self.invariant, c.items.ensures.few_samples)
