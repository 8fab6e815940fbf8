use Rattle.std.proofs.Common.{◌≡◌, ◌∷◌, length, reverse}
use Rattle.c_check.specs.Entries.{turned, IsTable}
use Rattle.c_check.proofs.table.Table.leave.Given as goal

abbrev pub invariant-loop-entry : goal.invariant-loop-entry
invariant-loop-entry l = record {
  table : IsTable l.self-inside.newest (reverse l.self-inside.block ∷ turned l.self-inside.outer);
  outer : l.self-inside.outer ≡ l.initial.self-inside.outer;
}

abbrev pub decreases-loop-entry : goal.decreases-loop-entry
decreases-loop-entry l = length l.self-inside.block
