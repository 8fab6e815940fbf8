-- The runs of all indexes are what is written, and then the open run before the runs of what is left.
use Rattle.std.proofs.Common.{◌≡◌, ◌++◌, string_bytes, drop}
use Rattle.report.specs.Indexes.{with_run, runs, runs_text, indexes_text}
use Rattle.report.proofs.indexes.indexes_text.Given as goal

abbrev pub invariant-loop-index : goal.invariant-loop-index
invariant-loop-index l = indexes_text l.fn.indexes ≡ string_bytes l.text ++ runs_text (with_run l.first l.last (runs (drop l.index-index l.others)))
