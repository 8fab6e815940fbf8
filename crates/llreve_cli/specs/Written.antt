-- The texts that are written, and the statuses that go with them.
use Rattle.std.specs.Prelude.{ℕ, Bool, true, false, List, [], ◌++◌}
use Rattle.pool_core.specs.declared.item.Item.{Item}
use Rattle.pool_core.specs.declared.verdict.Verdict.{Verdict}
use Rattle.pool_core.specs.declared.verdict.Verdict.TheVariants.{Equivalent, Different, Unknown}
use Rattle.report.specs.declared.fault.Fault.{Fault}
use Rattle.report.specs.declared.fault.Fault.TheVariants.{Read}
use Rattle.report.specs.Faults.{fault_text}
use Rattle.report.specs.Histories.{history_text}
use Rattle.report.specs.Verdicts.{verdict_text}
use Rattle.llreve_cli.specs.declared.judge.Finding.{Finding}
use Rattle.llreve_cli.specs.Outcome.{Outcome, Found, Refused}

-- ---- statuses

-- The status of a verdict.
abbrev pub verdict_status : Verdict → ℕ
verdict_status (Equivalent coupled indexes) = 0
verdict_status (Different index input first second) = 1
verdict_status (Unknown samples alignments) = 2

-- The status of a fault: 4 where a file could not be read, and else 3.
abbrev pub fault_status : Fault → ℕ
fault_status (Read name) = 4
fault_status _ = 3

-- The status of an outcome.
abbrev pub status_of : Outcome → ℕ
status_of (Found finding) = verdict_status finding.solved.verdict
status_of (Refused fault) = fault_status fault

-- ---- texts

-- The history's text, where it is asked for.
abbrev pub told_history : Bool → List Item → List ℕ
told_history true items = history_text items
told_history false items = []

-- What tells a finding: its history, where that is asked for, and then the verdict.
abbrev pub finding_text : Finding → List ℕ
finding_text finding =
    told_history finding.with_history finding.solved.history ++ verdict_text finding.subject finding.solved.verdict

-- What is written on the output.
abbrev pub out_text : Outcome → List ℕ
out_text (Found finding) = finding_text finding
out_text (Refused fault) = []

-- What is written on the errors' output.
abbrev pub err_text : Outcome → List ℕ
err_text (Found finding) = []
err_text (Refused fault) = fault_text fault
