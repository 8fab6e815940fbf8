use Rattle.llreve_cli.proofs.tests.runs.scopes.Given as goal

abbrev pub invariant-loop-event : goal.invariant-loop-event
invariant-loop-event l = Unit {0}
