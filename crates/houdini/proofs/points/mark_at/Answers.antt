use Rattle.std.proofs.Common.{List, Bool, sym, subst, refl}
use Rattle.lin_terms.specs.declared.row.Row.{Row}
use Rattle.lin_prover.specs.Settles.{IsPointOf}
use Rattle.houdini.specs.Failures.{Marks, IsHit}
use Rattle.houdini.proofs.Marking.{one_mark}
use Rattle.houdini.proofs.points.mark_at.Goals as goal
use Rattle.houdini.proofs.points.mark_at.Goals.{then-is_point_of, else-is_point_of}

pub loop-failure-preserved : goal.loop-failure-preserved
loop-failure-preserved c =
    let Marked = λ (marks : List Bool). Marks c.args.start.now c.args.failures.now c.args.marks.now marks in
    elim c.if-is_point_of.branch [
      | then-is_point_of w ↦
          let hit : IsHit c.args.start.now c.args.failures.now c.failure-item.result.atom = record {
            point = c.args.point.now;
            failure = c.failure-item.result;
            of_start = c.is_point_of.ensures.exact.0 c.if-not-is_point_of.false;
            among = (c.loop-failure.failure-index, c.loop-failure-test.true, sym c.failure-item.is);
            about = refl;
            of_failure = subst (λ (rows : List Row). IsPointOf rows c.args.point.now) c.as_slice.ensures
                (c.is_point_of-in-loop-failure.ensures.exact.0 w.if-is_point_of.true);
          } in
          subst Marked (sym w.marks-is) (one_mark c.args.start.now c.args.failures.now c.args.marks.now c.loop-failure.marks w.set_mark.new.marks
          c.failure-item.result.atom c.loop-failure.invariant hit w.set_mark.ensures)
      | else-is_point_of w ↦ subst Marked (sym w.marks-is) c.loop-failure.invariant
    ]
