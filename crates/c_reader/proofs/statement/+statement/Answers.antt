use Rattle.std.proofs.Common.{map, [], ◌∷◌, ap, sym, ◌∙◌}
use Rattle.std.proofs.lemmas.List.{map-append}
use Rattle.c_ast.specs.RawView.{raw_put_in_front}
use Rattle.c_reader.specs.ReadStatements.{entry_at, entries_at, statement_at}
use Rattle.c_reader.proofs.BlockSoundness.{entry-shorter}
use Rattle.c_reader.proofs.StatementSoundness.{statement_at-sound}
use Rattle.c_reader.proofs.ListLoops.{entries-start, entries-read}
use Rattle.c_reader.proofs.statement.+statement.Goals as goal

pub read_entries-loop-after-init : goal.read_entries-loop-after-init
read_entries-loop-after-init t c =
    rw c.new-made.ensures (entries-start c.args.room (statement_at c.args.room) c.args.tokens.now)

pub read_entries-loop-after-smaller : goal.read_entries-loop-after-smaller
read_entries-loop-after-smaller t c =
    entry-shorter c.args.room (statement_at c.args.room) _ _ (statement_at-sound c.args.room) c.in_ok-stmt.ensures

pub read_entries-loop-after-preserved : goal.read_entries-loop-after-preserved
read_entries-loop-after-preserved t c =
    entries-read (entry_at c.args.room (statement_at c.args.room)) (map raw_put_in_front c.loop-after.made)
    (map raw_put_in_front c.push.new.self) c.loop-after.others.now c.in_ok-stmt.behind.now
    (raw_put_in_front c.in_ok-stmt.stmt) (entries_at c.args.room (statement_at c.args.room) c.args.tokens.now)
    (entry-shorter c.args.room (statement_at c.args.room) _ _ (statement_at-sound c.args.room) c.in_ok-stmt.ensures)
    c.loop-after.invariant (sym (rw c.in_default.is at c.behind_sign.ensures.behind)) c.in_ok-stmt.ensures
    (ap (map raw_put_in_front) c.in_ok-push.ensures.ok ∙ map-append raw_put_in_front c.loop-after.made (c.in_ok-stmt.stmt ∷ []))
