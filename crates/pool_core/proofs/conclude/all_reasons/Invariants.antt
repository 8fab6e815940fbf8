use Rattle.std.proofs.Common.{◌≡◌, ◌<◌, ◌+◌, ℕ, length}
use Rattle.std.specs.List.{slice_get}
use Rattle.std.specs.Option.{IsSomeAnd}
use Rattle.pool_core.specs.History.{HasReason}
use Rattle.pool_core.proofs.conclude.all_reasons.Given as goal

abbrev pub invariant-loop-k : goal.invariant-loop-k
invariant-loop-k l = (length l.made ≡ l.k)
    × ((k : ℕ) → k < l.k → IsSomeAnd (slice_get l.made k) (HasReason l.log.items l.pairs (k + 1)))
