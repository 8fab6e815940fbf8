use Rattle.std.proofs.Common.{arith}
use Rattle.horn_clauses.specs.declared.atom.Atom.{Atom}
use Rattle.horn_clauses.specs.Obligations.{obligations_at}
use Rattle.houdini.proofs.Asking.{adds_next, atom_ends}
use Rattle.houdini.proofs.pass.ask_atoms.Goals as goal

pub returns-in-Err-clause-answers : goal.returns-in-Err-clause-answers
returns-in-Err-clause-answers g c =
    rw c.ending_of.ensures (atom_ends c.args.family.now c.args.clause.now c.args.number c.args.atoms.now c.args.cap c.loop-i.i c.index-atoms-i.result
    c.args.lists.now c.loop-i.lists c.ask_atom.new.lists c.in-Err.unproved c.loop-i-test.true c.index-atoms-i.is c.loop-i.invariant.adds
    c.in-Err.ensures.answers)

pub loop-i-preserved : goal.loop-i-preserved
loop-i-preserved g c = record {
  adds = adds_next c.args.family.now Atom (obligations_at c.args.clause.now) c.args.atoms.now c.loop-i.i c.index-atoms-i.result c.loop-i-test.true
      c.index-atoms-i.is c.args.lists.now c.loop-i.lists c.ask_atom.new.lists c.loop-i.invariant.adds c.in-Ok.ensures.answers;
  later = omega (arith, c.loop-i.invariant.later, c.ask_atom.ensures.later);
}
