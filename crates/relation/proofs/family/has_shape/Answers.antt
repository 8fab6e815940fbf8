use Rattle.std.proofs.Common.{rules, arith, List, length, ap, sym}
use Rattle.horn_clauses.specs.declared.atom.Atom.{Atom}
use Rattle.horn_clauses.specs.declared.node.Node.{Node}
use Rattle.relation.proofs.Shaping.{shape_of}
use Rattle.relation.proofs.family.has_shape.Goals as goal

pub returns : goal.returns
returns c =
    let long = ap (λ (entries : List (Node × List Atom)). length entries) c.as_slice-entries.ensures in (
      λ is. shape_of c.args.first.now c.args.second.now c.args.product.now c.args.family.now c.loop-i.i (sym c.loop-i.invariant.long)
          (omega (arith, c.loop-i-test.false, long)) c.loop-i.invariant.lists,
      λ shape. search rules,
    )
