-- What is written, and then the items that are left, is all.
use Rattle.std.proofs.Common.{◌≡◌, ◌++◌, string_bytes, drop}
use Rattle.report.specs.Histories.{item_lines, history_text}
use Rattle.report.proofs.history.lines_of.Given as goal

abbrev pub invariant-loop-position : goal.invariant-loop-position
invariant-loop-position l = history_text l.items ≡ string_bytes l.text ++ item_lines l.position (drop l.position l.items)
