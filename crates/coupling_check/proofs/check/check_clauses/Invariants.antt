use Rattle.horn_clauses.specs.declared.clause.Clause.{Clause}
use Rattle.horn_clauses.specs.Obligations.{obligations_for}
use Rattle.coupling_check.proofs.Proving.{Leads}
use Rattle.coupling_check.proofs.check.check_clauses.Given as goal

abbrev pub invariant-loop-clause : goal.invariant-loop-clause
invariant-loop-clause l = Leads l.family Clause (obligations_for l.family) l.clauses l.lists 0 l.clause-index l.number
