-- The calls of an object in memory, of which those with given numbers fail.
use Rattle.std.specs.Prelude.{ℕ, Bool, List, ◌==◌}
use Rattle.std.specs.List.{list_any}
use Rattle.re_base.specs.Causes.{raised}

-- the numbers of the calls that fail, from 0, how many calls were made, and how many of them were faults
pub record Counts : Type 0 where
  pub failing : List ℕ
  pub calls : ℕ
  pub faults : ℕ

-- before the first call
abbrev pub no_calls : List ℕ → Counts
no_calls failing = record { failing = failing; calls = 0; faults = 0 }

-- whether the number of the next call is among those that fail
abbrev pub is_next_failing : Counts → Bool
is_next_failing counts = list_any (λ call. call == counts.calls) counts.failing

-- one call more
abbrev pub after_call : Counts → Counts
after_call counts = record counts { calls = raised counts.calls }

-- one fault more
abbrev pub after_fault : Counts → Counts
after_fault counts = record counts { faults = raised counts.faults }
