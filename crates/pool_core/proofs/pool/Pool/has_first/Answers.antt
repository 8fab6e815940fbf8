use Rattle.std.proofs.Common.{◌≡◌, ◌↔◌, ℕ, List, length, take, ap, ◌∙◌, subst}
use Rattle.std.specs.Prelude.{IsTrue}
use Rattle.pool_core.specs.History.{indexes_of}
use Rattle.pool_core.specs.Plays.{State}
use Rattle.pool_core.proofs.Pooling.{kept_indexes, few_pairs}
use Rattle.pool_core.proofs.pool.Pool.has_first.Goals as goal

pub returns-clause-first : goal.returns-clause-first
returns-clause-first c =
    subst (λ (all : List ℕ). IsTrue c.are_first_of.result ↔ (c.args.snapshot.now.indexes ≡ take (length c.args.snapshot.now.indexes) all))
    (kept_indexes c.self.inside.subject c.self.inside.log c.self.inside.pairs c.self.inside.lives.fronts.items c.self.invariant
    ∙ ap (λ (s : State). indexes_of s.items) c.self.view_is) c.are_first_of.ensures

pub returns-clause-few : goal.returns-clause-few
returns-clause-few c = λ yes.
    few_pairs c.args.snapshot.now.subject c.args.self.now.items c.args.snapshot.now.indexes c.args.snapshot.now.pairs c.subject.ensures.snapshot
    (subst (λ (all : List ℕ). c.args.snapshot.now.indexes ≡ take (length c.args.snapshot.now.indexes) all)
    (kept_indexes c.self.inside.subject c.self.inside.log c.self.inside.pairs c.self.inside.lives.fronts.items c.self.invariant
    ∙ ap (λ (s : State). indexes_of s.items) c.self.view_is) (c.are_first_of.ensures.0 yes))
