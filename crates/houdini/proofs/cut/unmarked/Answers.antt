use Rattle.std.proofs.Common.{inl, inr, drop, arith}
use Rattle.std.proofs.Math.ListN.{drop_of_length-le}
use Rattle.houdini.specs.Cut.{unmarked}
use Rattle.houdini.proofs.Cutting.{no_items, unmarked_made}
use Rattle.houdini.proofs.cut.unmarked.Goals as goal
use Rattle.houdini.proofs.cut.unmarked.Goals.{else-loop-mark-test, then-loop-mark-test+in_default}

pub returns : goal.returns
returns c =
    let ended = unmarked_made c.loop-mark.made c.loop-mark.left.items (unmarked c.args.atoms c.args.marks.now) (drop c.loop-mark.mark-index c.args.marks.now) in
    elim c.loop-mark-test.branch [
      | else-loop-mark-test w ↦ ended (inr (drop_of_length-le c.args.marks.now (omega (arith, w.loop-mark-test.false)))) c.loop-mark.invariant
      | then-loop-mark-test+in_default w ↦
          ended (inl (no_items c.loop-mark.left.items (omega (arith, w.in_default.ensures.cases.0, c.loop-mark.left.ok.0)))) c.loop-mark.invariant
    ]
