use Rattle.std.proofs.Common.{◌≡◌, vec_len}
use Rattle.simplex.proofs.dictionary.Dictionary.settle_variables.Given as goal

abbrev pub invariant-loop-column : goal.invariant-loop-column
invariant-loop-column l = l.column-end ≡ vec_len l.self.nonbasic
