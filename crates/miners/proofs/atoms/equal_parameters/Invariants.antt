use Rattle.std.proofs.Common.{◌≡◌, ◌+◌, ◌++◌, ℕ}
use Rattle.horn_clauses.specs.Equalities.{equalities_from, equal_parameters}
use Rattle.miners.proofs.atoms.equal_parameters.Given as goal

abbrev pub invariant-loop-place : goal.invariant-loop-place
invariant-loop-place l = (k : ℕ) → l.place + k ≡ l.count → l.atoms ++ equalities_from l.count l.place k ≡ equal_parameters l.count
