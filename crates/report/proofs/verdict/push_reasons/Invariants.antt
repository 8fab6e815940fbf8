-- What is written, and then the alignments that are left, is all.
use Rattle.std.proofs.Common.{◌≡◌, ◌++◌, suc, string_bytes, drop}
use Rattle.report.specs.Verdicts.{reasons_text}
use Rattle.report.proofs.verdict.push_reasons.Given as goal

abbrev pub invariant-loop-i : goal.invariant-loop-i
invariant-loop-i l = string_bytes l.text ++ reasons_text l.subject (suc l.i) (drop l.i l.alignments)
    ≡ string_bytes l.fn.text ++ reasons_text l.subject 1 l.alignments
