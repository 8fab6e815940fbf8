use Rattle.std.proofs.Common.{◌≡◌, ◌≤◌, length, take, map}
use Rattle.pool_core.specs.declared.pages.Added.{Added}
use Rattle.pool_core.proofs.pool.begin_with.Given as goal

abbrev pub invariant-loop-k : goal.invariant-loop-k
invariant-loop-k l = record {
  shorter : length l.indexes ≤ length l.pairs;
  same : take l.k l.indexes ≡ take l.k (map (λ (added : Added). added.index) l.pairs);
}
