use Rattle.std.proofs.Common.{◌≡◌, ◌<◌, ℕ, length}
use Rattle.std.specs.List.{slice_get}
use Rattle.std.specs.Option.{IsSomeAnd}
use Rattle.pool_core.specs.History.{HasSample}
use Rattle.pool_core.proofs.conclude.all_said.Given as goal

abbrev pub invariant-loop-index : goal.invariant-loop-index
invariant-loop-index l = (length l.made ≡ l.index)
    × ((index : ℕ) → index < l.index → IsSomeAnd (slice_get l.made index) (HasSample l.log.items index))
