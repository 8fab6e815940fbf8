-- What is told of an outcome, by the output, by the errors' output and by the status.
use Rattle.std.specs.Prelude.{◌≡◌, ◌≢◌, ℕ, All, Result, Ok, Err}
use Rattle.report.specs.Faults.{fault_text}
use Rattle.report.specs.Fits.{FitsSubject}
use Rattle.report.specs.Histories.{IsKeptItem}
use Rattle.llreve_cli.specs.declared.judge.NoVerdict.{NoVerdict}
use Rattle.llreve_cli.specs.declared.judge.NoVerdict.TheVariants as no_verdict
use Rattle.llreve_cli.specs.declared.judge.Finding.{Finding}
use Rattle.llreve_cli.specs.Outcome.{Outcome, Found, Refused}
use Rattle.llreve_cli.specs.Change.{Change, Gets, GetsFront, GetsNothing, Fails}
use Rattle.llreve_cli.specs.Written.{status_of, out_text, err_text, finding_text}

-- Nothing that is told of the finding is want of memory, and its verdict is one on its subject.
pub record CanBeTold (finding : Finding) : Type 0 where
  pub fits : FitsSubject finding.subject finding.solved.verdict
  pub kept : All IsKeptItem finding.solved.history

-- The texts of the outcome are written whole, and the status is its own.
abbrev pub IsTold : Outcome → (out err : Change) → ℕ → Type 0
IsTold outcome out err status =
    (status ≡ status_of outcome) × Gets out (out_text outcome) × Gets err (err_text outcome)

-- The sink that the outcome is told on counted a fault and got a part of the text's front; the other got nothing.
abbrev pub IsCut : Outcome → (out err : Change) → Type 0
IsCut (Found finding) out err = Fails out × GetsFront out (finding_text finding) × GetsNothing err
IsCut (Refused fault) out err = Fails err × GetsFront err (fault_text fault) × GetsNothing out

-- The outcome is told, unless a write failed (5), or memory ran out before the first byte (6).
pub record Tells (outcome : Outcome) (out err : Change) (status : ℕ) : Type 0 where
  pub whole : status ≢ 5 → status ≢ 6 → IsTold outcome out err status
  pub cut : status ≡ 5 → IsCut outcome out err
  pub memory : status ≡ 6 → GetsNothing out × GetsNothing err

-- What is told of an answer of the judgement: its outcome, and nothing where memory ran out.
abbrev pub TellsJudged : Result Finding NoVerdict → (out err : Change) → ℕ → Type 0
TellsJudged (Ok finding) out err status = Tells (Found finding) out err status
TellsJudged (Err (no_verdict.Refused fault)) out err status = Tells (Refused fault) out err status
TellsJudged (Err no_verdict.Memory) out err status = (status ≡ 6) × GetsNothing out × GetsNothing err
