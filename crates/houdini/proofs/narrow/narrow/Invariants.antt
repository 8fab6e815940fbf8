use Rattle.std.proofs.Common.{◌≡◌, ◌≤◌, ◌+◌, ◌*◌, length, vec_len, count_by}
use Rattle.coupling_check.specs.Checks.{CanCheck}
use Rattle.houdini.specs.Linear.{Narrows}
use Rattle.houdini.specs.Striking.{count_atoms}
use Rattle.houdini.proofs.narrow.narrow.Given as goal

abbrev pub invariant-loop-number : goal.invariant-loop-number
invariant-loop-number g l = record {
  narrows : Narrows l.product l.fn.family l.left;
  can : CanCheck l.product l.left;
  clauses : vec_len l.waiting ≡ length l.clauses;
  points : vec_len l.points ≡ length l.clauses;
  later : g.W.Watch.stops l.fn.watch ≤ g.W.Watch.stops l.watch;
}

abbrev pub decreases-loop-number : goal.decreases-loop-number
decreases-loop-number g l = count_atoms l.left.nodes * (length l.clauses + 1) + count_by (λ waits. waits) l.waiting.items
