-- The numbers of alignments.
use Rattle.std.specs.Prelude.{ℕ, ◌≤◌}

-- The number is one of the twelve.
pub record IsAlignment (number : ℕ) : Type 0 where
  pub least : 1 ≤ number
  pub most : number ≤ 12
