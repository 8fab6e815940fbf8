use Rattle.std.proofs.Common.{◌≡◌, ◌++◌, drop}
use Rattle.miners.specs.Mined.{bounds_of}
use Rattle.miners.specs.Sparse.{coefs_of}
use Rattle.miners.proofs.atoms.add_bounds_of.Given as goal

abbrev pub invariant-loop-constant : goal.invariant-loop-constant
invariant-loop-constant l =
    l.atoms ++ bounds_of (drop l.constant-index l.constants) (coefs_of l.width l.least.shape) l.least.sum
    ≡ l.initial.atoms ++ bounds_of l.constants (coefs_of l.width l.least.shape) l.least.sum
