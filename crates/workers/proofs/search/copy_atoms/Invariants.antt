use Rattle.std.proofs.Common.{◌≡◌, ◌++◌, drop}
use Rattle.workers.proofs.search.copy_atoms.Given as goal

abbrev pub invariant-loop-atom : goal.invariant-loop-atom
invariant-loop-atom l = l.made ++ drop l.atom-index l.atoms ≡ l.atoms
