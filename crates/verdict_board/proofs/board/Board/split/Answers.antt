use Rattle.std.proofs.Common.{arith}
use Rattle.verdict_board.proofs.Allowed.{splits_kept}
use Rattle.verdict_board.proofs.board.Board.split.Goals as goal

pub split_seat-requires : goal.split_seat-requires
split_seat-requires c =
    let board = c.args.self.now in
    let seat = c.args.pass.now.seat in
    let words = board.words in (
      c.requires.of_board.board,
      omega arith,
      splits_kept board.table.shared.key seat.id seat.me.0 c.args.pass.now.live c.requires.left,
    )
