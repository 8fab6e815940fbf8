use Rattle.std.proofs.Common.{◌+◌, ◌*◌, map, length}
use Rattle.c_ast.specs.RawView.{raw_put_in_front}
use Rattle.c_reader.specs.ReadStatements.{entry_at, entries_at, statement_at}
use Rattle.c_reader.proofs.ListLoops.{EntriesSoFar}
use Rattle.c_reader.proofs.statement.+statement.Given as goal

abbrev pub decreases-read_statement : goal.decreases-read_statement
decreases-read_statement l = 4 * l.room

abbrev pub decreases-read_entry : goal.decreases-read_entry
decreases-read_entry l = 4 * l.room + 1

abbrev pub decreases-read_entries : goal.decreases-read_entries
decreases-read_entries l = 4 * l.room + 2

abbrev pub decreases-read_else : goal.decreases-read_else
decreases-read_else l = 4 * l.room + 1

abbrev pub decreases-read_if : goal.decreases-read_if
decreases-read_if l = 4 * l.room + 2

abbrev pub decreases-read_while : goal.decreases-read_while
decreases-read_while l = 4 * l.room + 1

abbrev pub decreases-read_do : goal.decreases-read_do
decreases-read_do l = 4 * l.room + 1

abbrev pub decreases-read_for : goal.decreases-read_for
decreases-read_for l = 4 * l.room + 1

-- Behind the entries that are made so far come the others.
abbrev pub invariant-read_entries-loop-after : goal.invariant-read_entries-loop-after
invariant-read_entries-loop-after l =
    EntriesSoFar (entry_at l.room (statement_at l.room)) (map raw_put_in_front l.made) l.others
    (entries_at l.room (statement_at l.room) l.tokens)

abbrev pub decreases-read_entries-loop-after : goal.decreases-read_entries-loop-after
decreases-read_entries-loop-after l = length l.others

abbrev pub decreases-read_block : goal.decreases-read_block
decreases-read_block l = 4 * l.room + 3
