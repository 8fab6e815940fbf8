-- The pass stays of the board, and holds no number past the samples.
use Rattle.std.proofs.Common.{◌≡◌}
use Rattle.verdict_board.specs.Passes.{IsOf, IsBelow, view_of}
use Rattle.verdict_board.proofs.tests.draws.Given as goal

abbrev pub invariant-loop-turn : goal.invariant-loop-turn
invariant-loop-turn l = IsOf l.board l.pass × ((view_of l.pass).samples.limit ≡ 500) × IsBelow (view_of l.pass).samples
