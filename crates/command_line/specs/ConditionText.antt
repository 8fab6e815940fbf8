-- The text of a condition on the inputs.
use Rattle.std.specs.Prelude.{ℕ, ◌≤◌, List, length}

-- The text of a condition has 1 to 4,096 bytes.
abbrev pub IsConditionText : List ℕ → Type 0
IsConditionText text = (1 ≤ length text) × (length text ≤ 4096)
