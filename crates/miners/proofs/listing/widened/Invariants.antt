use Rattle.std.proofs.Common.{◌≡◌, ◌++◌, ℕ, suc, drop}
use Rattle.miners.specs.Sparse.{all_ended}
use Rattle.miners.proofs.listing.widened.Given as goal

abbrev pub invariant-loop-shape : goal.invariant-loop-shape
invariant-loop-shape l = (n k : ℕ)
    → all_ended l.kind n (suc l.index) k l.made.items ++ all_ended l.kind n l.index (suc k) (drop l.shape-index l.shapes)
    ≡ all_ended l.kind n l.index (suc k) l.shapes
