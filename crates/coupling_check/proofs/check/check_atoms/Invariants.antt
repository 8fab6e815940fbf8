use Rattle.horn_clauses.specs.declared.atom.Atom.{Atom}
use Rattle.horn_clauses.specs.Obligations.{obligations_at}
use Rattle.coupling_check.proofs.Proving.{Leads}
use Rattle.coupling_check.proofs.check.check_atoms.Given as goal

abbrev pub invariant-loop-atom : goal.invariant-loop-atom
invariant-loop-atom l = Leads l.family Atom (obligations_at l.clause) l.atoms l.lists l.number l.atom-index l.next
