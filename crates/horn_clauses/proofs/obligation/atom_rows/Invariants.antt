use Rattle.std.proofs.Common.{◌≡◌, ◌++◌, drop, map}
use Rattle.horn_clauses.specs.Obligations.{atom_row}
use Rattle.horn_clauses.proofs.obligation.atom_rows.Given as goal

abbrev pub invariant-loop-atom : goal.invariant-loop-atom
invariant-loop-atom l = l.rows ++ map (atom_row l.columns) (drop l.atom-index l.atoms) ≡ map (atom_row l.columns) l.atoms
