use Rattle.std.proofs.Common.{◌≡◌, ◌+◌, ℕ}
use Rattle.miners.specs.Sparse.{all_ended, shapes_of}
use Rattle.miners.proofs.listing.listed.Given as goal

abbrev pub invariant-loop-index : goal.invariant-loop-index
invariant-loop-index l = (k : ℕ) → l.index + k ≡ l.count
    → all_ended l.kind l.count l.index k l.shapes.items ≡ shapes_of l.kind l.count
