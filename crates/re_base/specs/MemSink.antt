-- What a sink in memory takes of a piece, and what that changes.
use Rattle.std.specs.Prelude.{◌≡◌, ℕ, ◌-◌, ◌<◌, ◌≤◌, min, ◌⊎◌, IsTrue, List, [], ◌++◌, length, take, Result, Ok, Err}
use Rattle.re_base.specs.declared.sink.SinkFailed.{SinkFailed}
use Rattle.re_base.specs.Counts.{Counts, no_calls, is_next_failing, after_call, after_fault}

-- what the sink holds, how many bytes there is room for, how many a call takes at most, and the counts of the calls
pub record SinkInMemory : Type 0 where
  pub bytes : List ℕ
  pub room : ℕ
  pub most : ℕ
  pub counts : Counts

-- the sink of these parts
abbrev pub sink_in_memory : List ℕ → ℕ → ℕ → Counts → SinkInMemory
sink_in_memory bytes room most counts =
    record { bytes = bytes; room = room; most = most; counts = counts }

-- before the first call
abbrev pub empty_sink : ℕ → ℕ → List ℕ → SinkInMemory
empty_sink room most failing = sink_in_memory [] room most (no_calls failing)

-- What it holds is within its room, and a call may take something.
pub record IsSinkInMemory (sink : SinkInMemory) : Type 0 where
  pub within : length sink.bytes ≤ sink.room
  pub takes_some : 0 < sink.most

-- how many bytes of a piece the next call takes
abbrev pub count_of : SinkInMemory → List ℕ → ℕ
count_of sink piece = min (min (length piece) sink.most) (sink.room - length sink.bytes)

-- The next call is one of those that fail, or can take nothing of a piece that is not empty.
abbrev pub Refuses : SinkInMemory → List ℕ → Type 0
Refuses sink piece =
    IsTrue (is_next_failing sink.counts) ⊎ ((count_of sink piece ≡ 0) × (0 < length piece))

-- the sink after a call with this result: what was taken stands at its end, or one fault more was counted
abbrev pub after_put : SinkInMemory → List ℕ → Result ℕ SinkFailed → SinkInMemory
after_put sink piece (Ok count) =
    record sink { bytes = sink.bytes ++ take count piece; counts = after_call sink.counts }
after_put sink piece (Err error) = record sink { counts = after_fault (after_call sink.counts) }
