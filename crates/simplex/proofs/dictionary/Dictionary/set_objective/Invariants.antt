use Rattle.std.proofs.Common.{◌≡◌, ◌+◌, vec_len}
use Rattle.simplex.proofs.dictionary.Dictionary.set_objective.Given as goal

abbrev pub invariant-loop-number : goal.invariant-loop-number
invariant-loop-number l = record {
  count : l.count ≡ vec_len l.self.basic;
  width : l.width ≡ vec_len l.self.nonbasic + 1;
}
