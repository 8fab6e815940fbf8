use Rattle.std.proofs.Common.{◌≡◌, ◌+◌, ◌*◌, ◌≤◌, length}
use Rattle.c_ast.specs.RawView.{raw_expression_of}
use Rattle.c_reader.specs.ReadExpressions.{level_at, further_at}
use Rattle.c_reader.proofs.expression.+expression.Given as goal

abbrev pub decreases-read_expression : goal.decreases-read_expression
decreases-read_expression l = 3 * length l.tokens.now + 2

abbrev pub decreases-read_level : goal.decreases-read_level
decreases-read_level l = 3 * length l.tokens.now + 1

abbrev pub decreases-read_operand : goal.decreases-read_operand
decreases-read_operand l = 3 * length l.tokens.now

-- what is read, and then what goes on from it, is all
abbrev pub invariant-read_level-loop-at : goal.invariant-read_level-loop-at
invariant-read_level-loop-at l = record {
  reads : level_at l.level l.tokens ≡ further_at l.level (raw_expression_of l.left.expr) l.others;
  within : l.left.depth ≤ l.room;
  shorter : length l.others + 1 ≤ length l.tokens;
}

abbrev pub decreases-read_level-loop-at : goal.decreases-read_level-loop-at
decreases-read_level-loop-at l = length l.others
