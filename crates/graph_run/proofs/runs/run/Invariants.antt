use Rattle.graph_run.proofs.Running.{Runs, measure}
use Rattle.graph_run.proofs.runs.run.Given as goal

abbrev pub invariant-loop-next : goal.invariant-loop-next
invariant-loop-next l = Runs l.graph l.input l.marks l.left l.events l.node l.environment

abbrev pub decreases-loop-next : goal.decreases-loop-next
decreases-loop-next l = measure l.graph l.left l.node
