use Rattle.std.proofs.Common.{◌≡◌, ◌++◌, drop}
use Rattle.horn_clauses.specs.Family.{atoms_at}
use Rattle.houdini.specs.Within.{entries_of}
use Rattle.workers.proofs.search.candidates_over.Given as goal

abbrev pub invariant-loop-node : goal.invariant-loop-node
invariant-loop-node l =
    l.entries ++ entries_of (atoms_at l.candidates) (drop l.node-index l.nodes) ≡ entries_of (atoms_at l.candidates) l.nodes
