use Rattle.alignment.proofs.Rows.{few_moves_at_marks}
use Rattle.alignment.proofs.alignment.Alignment.moves.Goals as goal

pub returns-in-Mark-Mark-clause-few_first : goal.returns-in-Mark-Mark-clause-few_first
returns-in-Mark-Mark-clause-few_first c =
    rw (c.at_marks.ensures, c.counts-counts.ensures.counts)
    (few_moves_at_marks c.args.self.now c.in-Mark-Mark.j c.in-Mark-Mark.k c.counts-counts.ensures.named).0

pub returns-in-Mark-Mark-clause-few_second : goal.returns-in-Mark-Mark-clause-few_second
returns-in-Mark-Mark-clause-few_second c =
    rw (c.at_marks.ensures, c.counts-counts.ensures.counts)
    (few_moves_at_marks c.args.self.now c.in-Mark-Mark.j c.in-Mark-Mark.k c.counts-counts.ensures.named).1
