-- What each kind of step tells the pass that makes it: of what it knew, of the number found, and of what it knows
-- now. A pass holds no slot of the table.
use Rattle.std.specs.Prelude.{◌≡◌, ℕ, ◌≤◌, ◌==◌, true, []}
use Rattle.atomic_table.specs.Table.{Me}
use Rattle.verdict_board.specs.declared.view.View.{View}
use Rattle.verdict_board.specs.Numbers.{times}
use Rattle.verdict_board.specs.Views.{looked, drew_sample, drew_alignment, raised, Knows}

-- a look, which finds 1 where the stop is raised
abbrev pub Looked : Me ℕ View → ℕ → Me ℕ View → Type 0
Looked before found after = (after ≡ (looked before.0 (found == 1), []))
    × (found ≤ 1) × (before.0.seen ≡ true → found ≡ 1) × Knows after.0

-- a draw of a sample's number
abbrev pub DrewSample : Me ℕ View → ℕ → Me ℕ View → Type 0
DrewSample before found after = (after ≡ (drew_sample before.0 found, []))
    × (times found before.0.samples.drawn ≡ 0)

-- a draw of an alignment's number
abbrev pub DrewAlignment : Me ℕ View → ℕ → Me ℕ View → Type 0
DrewAlignment before found after = (after ≡ (drew_alignment before.0 found, []))
    × (times found before.0.alignments.drawn ≡ 0)

-- a raise, which finds 0 where it is the first
abbrev pub Raised : Me ℕ View → ℕ → Me ℕ View → Type 0
Raised before found after = (after ≡ (raised before.0 (found == 0), []))
    × (found ≤ 1) × (before.0.seen ≡ true → found ≡ 1)

-- a look behind a join, which changes nothing
abbrev pub Learned : Me ℕ View → ℕ → Me ℕ View → Type 0
Learned before found after = (after ≡ before) × Knows before.0
