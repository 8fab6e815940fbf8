use Rattle.std.proofs.Common.{◌≡◌, vec_len}
use Rattle.simplex.proofs.dictionary.free_variables.Given as goal

abbrev pub invariant-loop-column : goal.invariant-loop-column
invariant-loop-column l = vec_len l.variables ≡ l.column
