use Rattle.std.proofs.Common.{◌≡◌, ℕ, ◌≤◌, take}
use Rattle.std.specs.Prelude.{count_by}
use Rattle.c_reader.specs.Depth.{is_opening_bracket, is_closing_bracket, IsDeepAt}
use Rattle.c_reader.proofs.depth.is_deep.Given as goal

-- The openings and the closings so far are counted, and no prefix so far is too deep.
abbrev pub invariant-loop-token : goal.invariant-loop-token
invariant-loop-token l = record {
  opened : l.opened ≡ count_by is_opening_bracket (take l.token-index l.tokens);
  closed : l.closed ≡ count_by is_closing_bracket (take l.token-index l.tokens);
  opened_few : l.opened ≤ l.token-index;
  closed_few : l.closed ≤ l.token-index;
  shallow : (count : ℕ) → count ≤ l.token-index → IsDeepAt l.tokens count → ⊥;
}
