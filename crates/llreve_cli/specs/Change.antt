-- What becomes of a sink in a call.
use Rattle.std.specs.Prelude.{ℕ, List, Option}
use Rattle.std.specs.Io.KnownBytes.{Appends, Keeps}
use Rattle.re_base.specs.Causes.{Rose}
use Rattle.re_base.specs.Told.{AppendsPrefix}
use Rattle.re_base.specs.declared.sink.Sink.{Ghosts}

-- What the sink tells of its bytes, and how often it has failed, before the call and after it. Where it tells nothing,
-- nothing is said of what it got.
pub record Change : Type 0 where
  pub before : Option (List ℕ)
  pub after : Option (List ℕ)
  pub faults_before : ℕ
  pub faults_after : ℕ

-- The change of a sink that became `after`.
abbrev pub change : {S : Type 0} → Ghosts S → (before after : S) → Change
change of before after = record {
  before = of.written before;
  after = of.written after;
  faults_before = of.faults before;
  faults_after = of.faults after;
}

-- The sink got these bytes.
abbrev pub Gets : Change → List ℕ → Type 0
Gets sink bytes = Appends sink.before sink.after bytes

-- The sink got a part of the front of these bytes.
abbrev pub GetsFront : Change → List ℕ → Type 0
GetsFront sink bytes = AppendsPrefix sink.before sink.after bytes

-- The sink got nothing.
abbrev pub GetsNothing : Change → Type 0
GetsNothing sink = Keeps sink.before sink.after

-- The sink counted a fault.
abbrev pub Fails : Change → Type 0
Fails sink = Rose sink.faults_before sink.faults_after
