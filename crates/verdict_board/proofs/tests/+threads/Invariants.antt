-- Each call has one thread more to make than the next.
use Rattle.std.proofs.Common.{◌+◌, ◌*◌}
use Rattle.verdict_board.proofs.tests.+threads.Given as goal

abbrev pub decreases-drawn_by_many : goal.decreases-drawn_by_many
decreases-drawn_by_many g l = 2 * l.more + 1

abbrev pub decreases-join+arg3 : goal.decreases-join+arg3
decreases-join+arg3 g l = 2 * l.more
