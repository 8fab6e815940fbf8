use Rattle.std.proofs.Common.{◌≡◌, ◌+◌, ◌<◌, ◌≤◌, drop}
use Rattle.c_tokens.specs.Steps.{after_bytes}
use Rattle.c_tokens.proofs.place.after_bytes.Given as goal

abbrev pub invariant-loop-byte : goal.invariant-loop-byte
invariant-loop-byte l = record {
  column : 0 < l.reached.column;
  small : l.reached.line + l.reached.column ≤ l.initial.reached.line + l.initial.reached.column + l.byte-index;
  so_far : after_bytes l.reached (drop l.byte-index l.bytes) ≡ after_bytes l.initial.reached l.bytes;
}
