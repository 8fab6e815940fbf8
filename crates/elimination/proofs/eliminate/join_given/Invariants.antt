use Rattle.std.proofs.Common.{◌≡◌, drop, Ok}
use Rattle.elimination.specs.Joining.{joined_each}
use Rattle.elimination.specs.Eliminated.{initial}
use Rattle.elimination.proofs.eliminate.join_given.Given as goal

abbrev pub invariant-loop-i : goal.invariant-loop-i
invariant-loop-i l = record {
  left : joined_each l.rows.cap (Ok l.rows.rows) (initial l.i (drop l.i l.given))
      ≡ joined_each l.initial.rows.cap (Ok l.initial.rows.rows) (initial 0 l.given);
  cap : l.rows.cap ≡ l.initial.rows.cap;
}
