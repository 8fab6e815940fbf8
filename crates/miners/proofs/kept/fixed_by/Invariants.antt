use Rattle.std.proofs.Common.{◌≡◌, ◌++◌, ℕ, map, drop}
use Rattle.std.specs.Prelude.{flat_map, All}
use Rattle.miners.specs.Mined.{equality_of}
use Rattle.miners.specs.Sparse.{coefs_of}
use Rattle.miners.specs.Kept.{sum_at, IsFixed, fixed_atom}
use Rattle.miners.proofs.kept.fixed_by.Given as goal

abbrev pub invariant-loop-shape : goal.invariant-loop-shape
invariant-loop-shape l = record {
  atoms : (n : ℕ) → map (fixed_atom n) l.made.items
      ++ flat_map (λ shape. equality_of (coefs_of n shape) (sum_at shape l.point)) (drop l.shape-index l.shapes)
      ≡ flat_map (λ shape. equality_of (coefs_of n shape) (sum_at shape l.point)) l.shapes;
  fixed : All (IsFixed l.point) l.made.items;
}
