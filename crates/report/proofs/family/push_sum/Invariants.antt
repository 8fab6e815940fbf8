-- What is written, and then the terms of what is left, is all.
use Rattle.std.proofs.Common.{◌≡◌, ◌++◌, map, string_bytes, drop}
use Rattle.report.specs.Families.{terms_of, terms_text, sum_text}
use Rattle.report.proofs.family.push_sum.Given as goal

abbrev pub invariant-loop-i : goal.invariant-loop-i
invariant-loop-i l = string_bytes l.text ++ terms_text l.later (terms_of (drop l.i l.coefs) (map string_bytes (drop l.i l.labels)))
    ≡ string_bytes l.fn.text ++ sum_text (terms_of l.coefs (map string_bytes l.labels))
