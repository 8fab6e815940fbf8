-- The indexes of all samples are those found, and then those of what is left.
use Rattle.std.proofs.Common.{◌≡◌, ◌++◌, drop}
use Rattle.report.specs.Samples.{indexes_from, indexes_where}
use Rattle.report.proofs.samples.indexes_where.Given as goal

abbrev pub invariant-loop-index : goal.invariant-loop-index
invariant-loop-index l = indexes_where l.cause l.samples ≡ l.indexes.items ++ indexes_from l.index l.cause (drop l.index l.samples)
