use Rattle.std.proofs.Common.{ℕ, List, drop, ap, ◌∙◌}
use Rattle.std.specs.Prelude.{◌==◌}
use Rattle.std.specs.List.{list_any}
use Rattle.pool_core.specs.History.{workers_of}
use Rattle.pool_core.specs.Plays.{State}
use Rattle.pool_core.proofs.Pooling.{kept_workers}
use Rattle.pool_core.proofs.pool.Pool.has_later_pair.Goals as goal

pub returns : goal.returns
returns c =
    c.has_later_pair.ensures
    ∙ ap (λ (all : List ℕ). list_any (λ other. other == c.args.worker) (drop c.args.count all))
    (kept_workers c.self.inside.subject c.self.inside.log c.self.inside.pairs c.self.inside.lives.fronts.items c.self.invariant
    ∙ ap (λ (s : State). workers_of s.items) c.self.view_is)
