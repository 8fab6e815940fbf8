use Rattle.std.proofs.Common.{List, map, sym, subst, ap, ◌∙◌}
use Rattle.c_ast.specs.Comparison.{Comparison}
use Rattle.pool_core.specs.declared.pages.Added.{Added}
use Rattle.pool_core.specs.Justified.{ArePairsAt}
use Rattle.pool_core.specs.Plays.{State, snapshot_of}
use Rattle.pool_core.proofs.Pooling.{kept_at, kept_snapshot}
use Rattle.pool_core.proofs.pool.Pool.snapshot.Goals as goal

pub new-requires : goal.new-requires
new-requires c =
    let at = kept_at c.self.inside.subject c.self.inside.log c.self.inside.pairs c.self.inside.lives.fronts.items c.self.invariant in
    subst (λ (all : List Added). ArePairsAt c.in_ok-subject.subject (map (λ (added : Added). added.index) all) (map (λ (added : Added). added.pair) all))
    (sym c.in_ok-pairs.ensures)
    (subst (λ (s : Comparison). ArePairsAt s (map (λ (added : Added). added.index) c.self.inside.pairs) (map (λ (added : Added). added.pair) c.self.inside.pairs))
    (sym c.in_ok-subject.ensures) at)

pub returns : goal.returns
returns c =
    c.new.ensures
    ∙ kept_snapshot c.self.inside.subject c.self.inside.log c.self.inside.pairs c.self.inside.lives.fronts.items c.self.invariant
    c.in_ok-subject.subject c.in_ok-pairs.pairs c.in_ok-subject.ensures c.in_ok-pairs.ensures
    ∙ ap (λ (s : State). snapshot_of s) c.self.view_is
