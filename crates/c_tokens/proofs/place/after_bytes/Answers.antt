use Rattle.std.proofs.Common.{arith}
use Rattle.c_tokens.proofs.Behind.{after_bytes-step}
use Rattle.c_tokens.proofs.place.after_bytes.Goals as goal

pub loop-byte-preserved : goal.loop-byte-preserved
loop-byte-preserved c = record {
  column = c.after_byte-reached.ensures.column;
  small = omega (arith, c.loop-byte.invariant.small, c.after_byte-reached.ensures.small);
  so_far = after_bytes-step _ _ _ _ _ c.loop-byte-test.true c.after_byte-reached.ensures.value c.loop-byte.invariant.so_far;
}
