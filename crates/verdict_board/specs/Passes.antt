-- What clauses name of a board and its passes.
use Rattle.std.specs.Prelude.{◌≡◌, ℕ, ◌+◌, ◌≤◌, IsTrue}
use Rattle.verdict_board.specs.declared.board.Board.{Board}
use Rattle.verdict_board.specs.declared.board.Pass.{Pass}
use Rattle.verdict_board.specs.declared.view.Ticket.{Ticket}
use Rattle.verdict_board.specs.declared.view.View.{View}
use Rattle.verdict_board.specs.Numbers.{times, past}

-- what the pass knows
abbrev pub view_of : Pass → View
view_of p = p.seat.me.0

-- what it knows of the ticket of samples
abbrev pub samples_of : Pass → Ticket
samples_of p = p.seat.me.0.samples

-- what it knows of the ticket of alignments
abbrev pub alignments_of : Pass → Ticket
alignments_of p = p.seat.me.0.alignments

-- the pass is of this board, and knows its limits
pub record IsOf (b : Board) (p : Pass) : Type 0 where
  pub board : p.seat.table_id ≡ b.table.shared.table_id
  pub samples : p.seat.me.0.samples.limit ≡ b.table.shared.key.samples
  pub alignments : p.seat.me.0.alignments.limit ≡ b.table.shared.key.alignments
  pub passes : p.seat.me.0.passes ≡ b.table.shared.key.passes

-- none of its numbers is at or past the limit
abbrev pub IsBelow : Ticket → Type 0
IsBelow t = past t.limit t.drawn ≡ 0

-- The pass may draw from the ticket: since its last draw or join it looked and saw no stop, and it holds no number
-- at or past the limit.
abbrev pub MayDraw : View → Ticket → Type 0
MayDraw v t = IsTrue v.may_draw × IsBelow t

-- no number is drawn by both, and none twice
abbrev pub AreApart : Ticket → Ticket → Type 0
AreApart t u = (x : ℕ) → times x t.drawn + times x u.drawn ≤ 1
