use Rattle.std.proofs.Common.{refl, arith}
use Rattle.horn_clauses.proofs.Nodes.{atoms_found}
use Rattle.horn_clauses.proofs.family.Family.at.Goals as goal

pub returns-then-same : goal.returns-then-same
returns-then-same c =
    atoms_found c.args.self.now.nodes c.as_slice-entry-items.result.now c.loop-entry.entry-index c.args.node.now c.entry-item.result c.as_slice.result.now
    c.as_slice-entry-items.ensures (omega (arith, c.loop-entry-test.true)) c.entry-item.is (c.if-same.ensures.0 refl) c.as_slice.ensures c.loop-entry.invariant
