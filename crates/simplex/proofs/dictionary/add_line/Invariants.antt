use Rattle.std.proofs.Common.{◌≡◌, ◌+◌, vec_len}
use Rattle.simplex.proofs.dictionary.add_line.Given as goal

abbrev pub invariant-loop-column : goal.invariant-loop-column
invariant-loop-column l = vec_len l.lines ≡ vec_len l.initial.lines + l.column
