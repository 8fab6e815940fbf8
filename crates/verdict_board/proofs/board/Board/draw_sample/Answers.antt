use Rattle.std.proofs.Common.{ℕ, sym, ap, ◌∙◌, arith}
use Rattle.atomic_table.specs.Table.{Me}
use Rattle.verdict_board.specs.declared.view.View.{View}
use Rattle.verdict_board.proofs.Tickets.{past_push}
use Rattle.verdict_board.specs.Numbers.{past}
use Rattle.verdict_board.proofs.Allowed.{sample_allowed}
use Rattle.verdict_board.proofs.board.Board.draw_sample.Goals as goal

pub fetch_add-requires : goal.fetch_add-requires
fetch_add-requires c =
    let board = c.args.self.now in
    let seat = c.args.pass.now.seat in
    let words = board.words in
    let limit = ap (λ (n : ℕ). past n seat.me.0.samples.drawn) c.requires.of_board.samples in (
      c.requires.of_board.board,
      omega arith,
      sample_allowed board.table.shared.key board.table.shared.table_id.slots seat.id seat.me c.args.pass.now.bare c.args.pass.now.live
          (sym limit ∙ c.requires.may.1),
    )

pub returns-clause-below : goal.returns-clause-below
returns-clause-below c below =
    let ticket = c.args.pass.now.seat.me.0.samples in
    let drawn = ap (λ (m : Me ℕ View). m.0.samples) c.fetch_add.ensures.2.0 in
    rw drawn (past_push ticket.limit c.fetch_add.result ticket.drawn c.requires.may.1 below)
