use Rattle.std.proofs.Common.{vec_len}
use Rattle.simplex.specs.Lines.{LeavesWithin}
use Rattle.simplex.proofs.dictionary.Dictionary.leaving.Given as goal

abbrev pub invariant-loop-number : goal.invariant-loop-number
invariant-loop-number l = LeavesWithin (vec_len l.self.basic) l.leaving
