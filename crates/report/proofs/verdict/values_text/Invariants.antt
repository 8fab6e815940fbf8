-- All values are those written, and then what is left.
use Rattle.std.proofs.Common.{◌≡◌, ◌++◌, string_bytes, drop}
use Rattle.report.specs.Verdicts.{values_text}
use Rattle.report.proofs.verdict.values_text.Given as goal

abbrev pub invariant-loop-value : goal.invariant-loop-value
invariant-loop-value l = values_text l.values ≡ string_bytes l.text ++ values_text (drop l.value-index l.values)
