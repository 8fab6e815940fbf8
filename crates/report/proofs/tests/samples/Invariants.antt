-- The samples so far are kept.
use Rattle.std.specs.Prelude.{All}
use Rattle.report.specs.Samples.{IsKeptSample}
use Rattle.report.proofs.tests.samples.Given as goal

abbrev pub invariant-loop-letter : goal.invariant-loop-letter
invariant-loop-letter l = All IsKeptSample l.samples.items
