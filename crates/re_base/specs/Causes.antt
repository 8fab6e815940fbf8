-- When a fault may be answered.
use Rattle.std.specs.Prelude.{ℕ, ◌+◌, ◌-◌, ◌^◌, ◌≤◌, min, OnErr, Result, Ok, Err}

-- the count after one more, which stops at the last value of a counter
abbrev pub raised : ℕ → ℕ
raised count = min (count + 1) (2 ^ 64 - 1)

-- The count is greater than before, or stands at the last value of a counter.
abbrev pub Rose : ℕ → ℕ → Type 0
Rose before now = raised before ≤ now

-- A count never falls, and an error comes only where it rose.
pub record HasCause {T E : Type 0} (before now : ℕ) (result : Result T E) : Type 0 where
  pub later : before ≤ now
  pub failed : OnErr result (Rose before now)

-- the count of faults after an answer of which each error is a fault
abbrev pub counted : {T E : Type 0} → ℕ → Result T E → ℕ
counted faults (Ok value) = faults
counted faults (Err error) = raised faults
