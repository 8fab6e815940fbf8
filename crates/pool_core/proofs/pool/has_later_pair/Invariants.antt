use Rattle.std.proofs.Common.{◌≡◌, ◌==◌, drop, map}
use Rattle.std.specs.List.{list_any}
use Rattle.pool_core.specs.declared.pages.Added.{Added}
use Rattle.pool_core.proofs.pool.has_later_pair.Given as goal

abbrev pub invariant-loop-k : goal.invariant-loop-k
invariant-loop-k l =
    list_any (λ other. other == l.worker) (drop l.count (map (λ (added : Added). added.worker) l.pairs))
    ≡ list_any (λ other. other == l.worker) (drop l.k (map (λ (added : Added). added.worker) l.pairs))
