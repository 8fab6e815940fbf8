-- Lists of numbers: how often a number stands in one, and the numbers below k, each once.
use Rattle.std.specs.Prelude.{◌≡◌, ℕ, ◌+◌, ◌==◌, nat_lt, List, [], ◌∷◌, if◌then◌else◌}

-- how often x stands in the list
abbrev pub times : ℕ → List ℕ → ℕ
times x [] = 0
times x (y ∷ ys) = (if y == x then 1 else 0) + times x ys

-- how many numbers of the list are at or past the limit
abbrev pub past : ℕ → List ℕ → ℕ
past limit [] = 0
past limit (y ∷ ys) = (if nat_lt y limit then 0 else 1) + past limit ys

-- 1 for the numbers below k, and 0 for the others
abbrev pub once_below : ℕ → ℕ → ℕ
once_below x k = if nat_lt x k then 1 else 0

-- the list holds the numbers below k, each once, and no other
abbrev pub AreBelow : ℕ → List ℕ → Type 0
AreBelow k xs = (x : ℕ) → times x xs ≡ once_below x k
