use Rattle.std.proofs.Common.{length, ◌-◌, ◌≡◌, ◌≤◌, ◌<◌, ◌+◌, ◌++◌, List, Option, take}
use Rattle.c_tokens.specs.declared.token.Token.{Token}
use Rattle.c_tokens.specs.declared.fault.TokenFault.{TokenFault}
use Rattle.c_tokens.specs.Steps.{place_behind}
use Rattle.c_tokens.specs.Tokens.{Follow}
use Rattle.c_tokens.proofs.scan.scanned.Given as goal

abbrev pub invariant-loop-at : goal.invariant-loop-at
invariant-loop-at l = record {
  within : l.at ≤ length l.text;
  column : 0 < l.place.column;
  small : l.place.line + l.place.column ≤ l.at + 2;
  place : l.place ≡ place_behind (take l.at l.text);
  so_far : (more : List Token) (end : Option TokenFault) → Follow l.text l.at more end → Follow l.text 0 (l.tokens.items ++ more) end;
}

abbrev pub decreases-loop-at : goal.decreases-loop-at
decreases-loop-at l = length l.text - l.at
