use Rattle.std.proofs.Common.{◌≡◌, ◌+◌, ◌++◌, ℕ}
use Rattle.miners.specs.Sparse.{coef_at, told, coefs_of}
use Rattle.miners.proofs.atoms.coefs_of.Given as goal

abbrev pub invariant-loop-place : goal.invariant-loop-place
invariant-loop-place l = (k : ℕ) → l.place + k ≡ l.width → l.coefs ++ told (coef_at l.shape) l.place k ≡ coefs_of l.width l.shape
