use Rattle.std.proofs.Common.{arith}
use Rattle.c_tokens.proofs.Numbers.{value_from-digit}
use Rattle.c_tokens.proofs.constants.value_in.Goals as goal

pub loop-digit-preserved : goal.loop-digit-preserved
loop-digit-preserved c = record {
  capped = omega arith;
  so_far = value_from-digit _ _ c.loop-digit.value _ _ _ _ c.requires c.loop-digit-test.true (cc) c.loop-digit.invariant.so_far;
}
