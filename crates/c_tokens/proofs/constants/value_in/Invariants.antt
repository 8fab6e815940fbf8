use Rattle.std.proofs.Common.{◌≡◌, ◌≤◌, ◌^◌, drop, min}
use Rattle.c_tokens.specs.Constants.{value_from, value_in}
use Rattle.c_tokens.proofs.constants.value_in.Given as goal

abbrev pub invariant-loop-digit : goal.invariant-loop-digit
invariant-loop-digit l = record {
  capped : l.value ≤ 2 ^ 63;
  so_far : min (2 ^ 63) (value_from l.base l.value (drop l.digit-index l.digits)) ≡ min (2 ^ 63) (value_in l.base l.digits);
}
