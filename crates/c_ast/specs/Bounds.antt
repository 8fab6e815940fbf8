-- The numbers that bound a search.
use Rattle.std.specs.Prelude.{ℕ, ◌≤◌}

-- How many samples are run, how many marks a run may pass, how many rows an elimination may keep, and what the later
-- samples are drawn from.
pub record Bounds : Type 0 where
  pub samples : ℕ
  pub marks : ℕ
  pub rows : ℕ
  pub seed : ℕ

-- The bounds of these numbers.
abbrev pub bounds : ℕ → ℕ → ℕ → ℕ → Bounds
bounds samples marks rows seed = record { samples = samples; marks = marks; rows = rows; seed = seed }

-- There are 1 to 1,000 samples, 1 to 250 marks of a run, and 1 to 4,000 rows of an elimination.
pub record AreBounds (b : Bounds) : Type 0 where
  pub some_samples : 1 ≤ b.samples
  pub few_samples : b.samples ≤ 1000
  pub some_marks : 1 ≤ b.marks
  pub few_marks : b.marks ≤ 250
  pub some_rows : 1 ≤ b.rows
  pub few_rows : b.rows ≤ 4000
