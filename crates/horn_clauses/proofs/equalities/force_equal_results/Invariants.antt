use Rattle.std.proofs.Common.{ℕ, ◌<◌, ◌≢◌, get_or}
use Rattle.horn_clauses.specs.declared.atom.Atom.{Atom}
use Rattle.horn_clauses.specs.declared.atom.Atom.TheVariants.{False}
use Rattle.horn_clauses.specs.Equalities.{equal_results}
use Rattle.horn_clauses.proofs.equalities.force_equal_results.Given as goal

abbrev pub invariant-loop-atom : goal.invariant-loop-atom
invariant-loop-atom l =
    (k : ℕ) (d : Atom) → k < l.atom-index → (get_or l.atoms k d ≢ equal_results) × (get_or l.atoms k d ≢ False)
