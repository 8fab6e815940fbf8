use Rattle.std.proofs.Common.{ℕ, ap, ◌∙◌, arith}
use Rattle.atomic_table.specs.Table.{Me}
use Rattle.verdict_board.specs.declared.view.View.{View}
use Rattle.verdict_board.specs.Numbers.{times}
use Rattle.verdict_board.proofs.Tickets.{times-append}
use Rattle.verdict_board.proofs.Allowed.{joins_kept, learns_allowed}
use Rattle.verdict_board.proofs.board.Board.join.Goals as goal

pub join_seat-requires : goal.join_seat-requires
join_seat-requires c =
    let board = c.args.self.now in
    let seat = c.args.pass.now.seat in
    let words = board.words in (
      c.requires.0.board,
      c.requires.1.board,
      c.args.other.bare,
      omega arith,
      joins_kept board.table.shared.key seat.id seat.me.0 c.args.other.seat.id c.args.other.seat.me.0 c.args.pass.now.live,
    )

pub load-requires : goal.load-requires
load-requires c =
    let board = c.args.self.now in
    let seat = c.join_seat.new.seat in
    let taken = c.join_seat.ensures.2 in
    let words = board.words in
    let weight = ap (λ (m : Me ℕ View). m.0.weight) taken in
    let live = c.args.pass.now.live in (
      c.join_seat.ensures.0 ∙ c.requires.0.board,
      omega arith,
      learns_allowed board.table.shared.key board.table.shared.table_id.slots seat.id seat.me
          (ap (λ (m : Me ℕ View). m.1) taken ∙ c.args.pass.now.bare) (omega arith)
          (ap (λ (m : Me ℕ View). m.0.passes) taken ∙ c.requires.0.passes),
    )

pub returns-clause-samples : goal.returns-clause-samples
returns-clause-samples c x =
    let drawn = ap (λ (m : Me ℕ View). times x m.0.samples.drawn) c.join_seat.ensures.2 in
    let parts = times-append x c.args.pass.now.seat.me.0.samples.drawn c.args.other.seat.me.0.samples.drawn in
    let most = c.load.ensures.2.1.samples x in
    omega arith

pub returns-clause-alignments : goal.returns-clause-alignments
returns-clause-alignments c x =
    let drawn = ap (λ (m : Me ℕ View). times x m.0.alignments.drawn) c.join_seat.ensures.2 in
    let parts = times-append x c.args.pass.now.seat.me.0.alignments.drawn c.args.other.seat.me.0.alignments.drawn in
    let most = c.load.ensures.2.1.alignments x in
    omega arith
