use Rattle.walks.proofs.Reaching.{ahead, AreLeft, BeginTogether}
use Rattle.walks.proofs.moving.positions.Given as goal

abbrev pub invariant-loop-alignment : goal.invariant-loop-alignment
invariant-loop-alignment l = record {
  left : AreLeft l.alignment l.pair l.made.items l.position;
  together : BeginTogether l.position;
}

abbrev pub decreases-loop-alignment : goal.decreases-loop-alignment
decreases-loop-alignment l = ahead l.pair l.position
