use Rattle.std.proofs.Common.{◌<◌, IfSome, vec_len}
use Rattle.simplex.proofs.dictionary.Dictionary.raising_column.Given as goal

abbrev pub invariant-loop-column : goal.invariant-loop-column
invariant-loop-column l = IfSome l.chosen (λ column. column < vec_len l.self.nonbasic)
