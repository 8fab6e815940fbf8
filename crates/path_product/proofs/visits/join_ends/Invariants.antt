use Rattle.std.proofs.Common.{◌≡◌, drop}
use Rattle.path_product.specs.Queue.{met_after}
use Rattle.path_product.proofs.visits.join_ends.Given as goal

abbrev pub invariant-loop-clause : goal.invariant-loop-clause
invariant-loop-clause l = met_after l.queue (drop l.clause-index l.clauses) ≡ met_after l.initial.queue l.clauses
