-- What is known of the numbers below k, each once. Each law is a clause of a call that does nothing.
use Rattle.std.specs.Prelude.{◌≡◌, ℕ, ◌<◌, List, length, slice_get, Some}
use Rattle.verdict_board.specs.Numbers.{AreBelow}

-- There are k of them.
abbrev pub LengthOfNumbers : Type 0
LengthOfNumbers = (k : ℕ) (xs : List ℕ) → AreBelow k xs → length xs ≡ k

-- Each number below k stands somewhere.
abbrev pub NumbersStand : Type 0
NumbersStand = (k : ℕ) (xs : List ℕ) → AreBelow k xs → (x : ℕ) → x < k → (i : ℕ) × (slice_get xs i ≡ Some x)

-- No other number does.
abbrev pub NumbersAreBelow : Type 0
NumbersAreBelow = (k : ℕ) (xs : List ℕ) → AreBelow k xs → (i x : ℕ) → slice_get xs i ≡ Some x → x < k

-- No number stands at two places.
abbrev pub NumbersStandOnce : Type 0
NumbersStandOnce = (k : ℕ) (xs : List ℕ) → AreBelow k xs → (i j x : ℕ)
    → slice_get xs i ≡ Some x → slice_get xs j ≡ Some x → i ≡ j
