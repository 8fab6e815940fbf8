use Rattle.std.proofs.Common.{arith}
use Rattle.horn_clauses.specs.declared.atom.Atom.{Atom}
use Rattle.horn_clauses.specs.Obligations.{obligations_at}
use Rattle.coupling_check.proofs.Proving.{leads_on, leads_to_failure, leads_to_end}
use Rattle.std.proofs.lemmas.Result.{err_from_is_err_and}
use Rattle.coupling_check.proofs.check.check_atoms.Goals as goal

pub returns-in_err-next : goal.returns-in_err-next
returns-in_err-next c =
    let failed = err_from_is_err_and c.from_residual.result c.from_residual.ensures.1 in
    rw (failed.1, failed.2) (leads_to_failure c.args.family.now Atom (obligations_at c.args.clause.now) c.args.atoms.now c.args.lists.now c.args.number
    c.loop-atom.atom-index c.loop-atom.next c.atom-item.result c.loop-atom-test.true c.atom-item.is c.loop-atom.invariant
    c.in_err-next.field-0.0 c.in_err-next.ensures)

pub loop-atom-preserved : goal.loop-atom-preserved
loop-atom-preserved c =
    leads_on c.args.family.now Atom (obligations_at c.args.clause.now) c.args.atoms.now c.args.lists.now c.args.number c.loop-atom.atom-index
    c.loop-atom.next c.atom-item.result c.loop-atom-test.true c.atom-item.is c.loop-atom.invariant c.in_ok-next.next c.in_ok-next.ensures

pub returns : goal.returns
returns c =
    leads_to_end c.args.family.now Atom (obligations_at c.args.clause.now) c.args.atoms.now c.args.lists.now c.args.number c.loop-atom.atom-index
    c.loop-atom.next (omega (arith, c.loop-atom-test.false)) c.loop-atom.invariant
