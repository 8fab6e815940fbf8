use Rattle.std.proofs.Common.{◌≡◌, ◌++◌, drop}
use Rattle.horn_clauses.proofs.obligation.copied_rows.Given as goal

abbrev pub invariant-loop-row : goal.invariant-loop-row
invariant-loop-row l = l.made ++ drop l.row-index l.rows ≡ l.rows
