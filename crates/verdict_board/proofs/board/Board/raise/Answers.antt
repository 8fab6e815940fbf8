use Rattle.std.proofs.Common.{arith}
use Rattle.verdict_board.proofs.Allowed.{raises_allowed}
use Rattle.verdict_board.proofs.board.Board.raise.Goals as goal

pub compare_exchange-requires : goal.compare_exchange-requires
compare_exchange-requires c =
    let board = c.args.self.now in
    let seat = c.args.pass.now.seat in
    let words = board.words in (
      c.requires.board,
      omega arith,
      raises_allowed board.table.shared.key board.table.shared.table_id.slots seat.id seat.me c.args.pass.now.bare c.args.pass.now.live c.requires.passes,
    )
