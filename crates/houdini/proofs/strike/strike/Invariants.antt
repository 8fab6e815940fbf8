use Rattle.houdini.proofs.Turning.{HaveTurned}
use Rattle.houdini.proofs.strike.strike.Given as goal

abbrev pub invariant-loop-done : goal.invariant-loop-done
invariant-loop-done l = HaveTurned l.node l.at l.initial.entries l.done l.found l.entries
